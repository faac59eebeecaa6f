use Rattle.std.proofs.Common.{◌∙◌, rules}
use Rattle.segment.specs.Records.{records_of}
use Rattle.segment.specs.Lent.{addresses_of}
use lib.Seq.{length-take-le}
use Rattle.runs.proofs.Zeros.{part-zero, cleared}
use Rattle.merge_mapping.proofs.Own.{right_stacked, right_ordered}
use Rattle.merge_mapping.proofs.Turns.{front_again}
use Rattle.merge_mapping.proofs.addresses_fit.Goals as goal

pub returns-then-mode-eq0-clause-value : goal.returns-then-mode-eq0-clause-value
returns-then-mode-eq0-clause-value c =
    c.is_empty.ensures ∙ right_stacked c.args.mode (records_of c.args.records.now) c.args.alive.now c.args.addresses.now c.if-mode-eq0.true

pub each_once-fit-requires : goal.each_once-fit-requires
each_once-fit-requires c =
    let room = c.requires.room c.if-mode-eq0.false in
    record {
      few = c.requires.few;
      held = c.requires.held;
      within = c.requires.within;
      long = length-take-le c.args.rows c.args.work.now room ∙ c.requires.counted;
      clean = part-zero c.args.work.now c.args.rows room c.requires.clean;
    }

pub returns-then-not-fit-clause-value : goal.returns-then-not-fit-clause-value
returns-then-not-fit-clause-value c =
    right_ordered c.args.mode (records_of c.args.records.now) c.args.alive.now (addresses_of c.args.addresses.now) c.if-mode-eq0.false c.each_once-fit.ensures.value

pub returns-then-not-fit-clause-work_after : goal.returns-then-not-fit-clause-work_after
returns-then-not-fit-clause-work_after c =
    cleared c.args.work.now c.args.rows (c.requires.room c.if-mode-eq0.false) c.requires.clean c.each_once-fit.new.bits c.each_once-fit.auto.bits c.fill.new.self (search rules)

pub returns-else-not-fit-clause-value : goal.returns-else-not-fit-clause-value
returns-else-not-fit-clause-value c =
    right_ordered c.args.mode (records_of c.args.records.now) c.args.alive.now (addresses_of c.args.addresses.now) c.if-mode-eq0.false c.each_once-fit.ensures.value

pub returns-else-not-fit-clause-work_after : goal.returns-else-not-fit-clause-work_after
returns-else-not-fit-clause-work_after c =
    front_again c.args.work.now c.args.rows (c.requires.room c.if-mode-eq0.false) c.requires.clean c.each_once-fit.new.bits (c.each_once-fit.ensures.bits_after c.if-not-fit.false)
