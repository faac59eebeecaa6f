use Rattle.census.proofs.Settled.{going_start, going_end, going_ready, going_map, going_low, going_few, going_text, going_more}
use Rattle.census.proofs.settle_all.Goals as goal

pub loop-r-init : goal.loop-r-init
loop-r-init c = going_start _ _ _ _ _

pub count-c-requires : goal.count-c-requires
count-c-requires c =
    (going_ready c.loop-r.invariant c.requires c.loop-r-test.true c.from-p.ensures).countable

pub text_from-text-requires : goal.text_from-text-requires
text_from-text-requires c =
    let r = going_ready c.loop-r.invariant c.requires c.loop-r-test.true c.from-p.ensures in
    record { lies = r.terms-lie; lengths_bound = r.text-few; from_bound = (going_low c.loop-r.invariant c.requires c.loop-r-test.true).text }

pub settle-q-requires : goal.settle-q-requires
settle-q-requires c =
    record {
      from_le_to = (going_ready c.loop-r.invariant c.requires c.loop-r-test.true c.from-p.ensures).terms-lie.rises;
      from_bound = going_map c.loop-r.invariant c.requires c.loop-r-test.true c.from-p.ensures;
    }

pub plus-t-requires : goal.plus-t-requires
plus-t-requires c =
    let f = going_few c.loop-r.invariant c.requires c.loop-r-test.true c.from-p.ensures c.count-c.ensures c.text_from-text.ensures c.settle-q.ensures c.census_as.ensures in
    let w = going_text c.loop-r.invariant c.requires c.loop-r-test.true c.from-p.ensures c.count-c.ensures c.text_from-text.ensures c.settle-q.ensures c.census_as.ensures in
    record { low_tally = going_low c.loop-r.invariant c.requires c.loop-r-test.true; rows_bound = f.0; listed_bound = f.1; values_bound = f.2; from_le_to = w.0; to_bound = w.1 }

pub loop-r-preserved : goal.loop-r-preserved
loop-r-preserved c =
    going_more c.loop-r.invariant c.requires c.loop-r-test.true c.from-p.ensures c.count-c.ensures c.text_from-text.ensures c.settle-q.ensures c.census_as.ensures c.plus-t.ensures c.from.ensures

pub returns-clause-value : goal.returns-clause-value
returns-clause-value c =
    (going_end c.loop-r.invariant c.loop-r-test.false).0

pub returns-clause-stands_after : goal.returns-clause-stands_after
returns-clause-stands_after c =
    (going_end c.loop-r.invariant c.loop-r-test.false).1
