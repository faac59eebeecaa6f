use mathlib.Core.Path.{sym, ap, ◌∙◌}
use native.Mathlib.Omega.{arith}
use lib.ListN.{length, length-map}
use lib.Seq.{length-take-le}
use Rattle.definitions.specs.Wire.{word_sections, record_groups}
use Rattle.segment.specs.Records.{row_of}
use Rattle.definitions.specs.Outcome.{Lent, join_outcome}
use Rattle.definitions.specs.Listing.{listing}
use Rattle.runs.specs.Put.{put}
use Rattle.runs.proofs.Laws.{front-lent}
use Rattle.wire.proofs.Fitting as fitting
use Rattle.reply.proofs.Laws as laws
use Rattle.reply.proofs.answer_words.Goals as goal

pub read_number-mode-requires-clause-narrow : goal.read_number-mode-requires-clause-narrow
read_number-mode-requires-clause-narrow c =
    fitting.narrow_head c.requires.fitted

pub read_number-mode-requires-clause-i_in_bounds : goal.read_number-mode-requires-clause-i_in_bounds
read_number-mode-requires-clause-i_in_bounds c =
    fitting.two-numbers c.requires.fitted 0 (omega arith)

pub read_number-required-requires-clause-narrow : goal.read_number-required-requires-clause-narrow
read_number-required-requires-clause-narrow c =
    fitting.narrow_head c.requires.fitted

pub read_number-required-requires-clause-i_in_bounds : goal.read_number-required-requires-clause-i_in_bounds
read_number-required-requires-clause-i_in_bounds c =
    fitting.two-numbers c.requires.fitted 1 (omega arith)

pub read_records-r-requires-clause-narrow_records : goal.read_records-r-requires-clause-narrow_records
read_records-r-requires-clause-narrow_records c =
    fitting.narrow-records c.requires.fitted

pub read_numbers-i-requires-clause-narrow : goal.read_numbers-i-requires-clause-narrow
read_numbers-i-requires-clause-narrow c =
    fitting.narrow-ids c.requires.fitted

pub read_numbers-o-requires-clause-narrow : goal.read_numbers-o-requires-clause-narrow
read_numbers-o-requires-clause-narrow c =
    fitting.narrow-offsets c.requires.fitted

pub section-values-requires-clause-k_in_bounds : goal.section-values-requires-clause-k_in_bounds
section-values-requires-clause-k_in_bounds c =
    fitting.stands c.requires.fitted 4 (omega arith)

pub read_numbers-l-requires-clause-narrow : goal.read_numbers-l-requires-clause-narrow
read_numbers-l-requires-clause-narrow c =
    fitting.narrow-lengths c.requires.fitted

pub read_numbers-b-requires-clause-narrow : goal.read_numbers-b-requires-clause-narrow
read_numbers-b-requires-clause-narrow c =
    fitting.narrow-bytes c.requires.fitted

pub section-alive-requires-clause-k_in_bounds : goal.section-alive-requires-clause-k_in_bounds
section-alive-requires-clause-k_in_bounds c =
    fitting.stands c.requires.fitted 7 (omega arith)

pub read_addresses-a-requires-clause-narrow : goal.read_addresses-a-requires-clause-narrow
read_addresses-a-requires-clause-narrow c =
    fitting.narrow-addresses c.requires.fitted

pub slice_bounds-records-end : goal.slice_bounds-records-end
slice_bounds-records-end c =
    omega (arith, fitting.few-records c.requires.fitted _ c.read_records-r.ensures.value)

pub slice_bounds-answer_lists-end : goal.slice_bounds-answer_lists-end
slice_bounds-answer_lists-end c =
    sym (length-take-le _ _ (omega (arith, fitting.few-records c.requires.fitted _ c.read_records-r.ensures.value)))

pub slice_bounds-ids-end : goal.slice_bounds-ids-end
slice_bounds-ids-end c =
    omega (arith, fitting.few c.requires.fitted 2 _ (omega arith) c.read_numbers-i.ensures.value)

pub slice_bounds-sections-end : goal.slice_bounds-sections-end
slice_bounds-sections-end c =
    sym (length-take-le _ _ (omega (arith, fitting.few c.requires.fitted 2 _ (omega arith) c.read_numbers-i.ensures.value)))

pub slice_bounds-offsets-end : goal.slice_bounds-offsets-end
slice_bounds-offsets-end c =
    omega (arith, fitting.few c.requires.fitted 3 _ (omega arith) c.read_numbers-o.ensures.value)

pub slice_bounds-sections-end-2 : goal.slice_bounds-sections-end-2
slice_bounds-sections-end-2 c =
    sym (length-take-le _ _ (omega (arith, fitting.few c.requires.fitted 3 _ (omega arith) c.read_numbers-o.ensures.value)))

pub slice_bounds-lengths-end : goal.slice_bounds-lengths-end
slice_bounds-lengths-end c =
    omega (arith, fitting.few c.requires.fitted 5 _ (omega arith) c.read_numbers-l.ensures.value)

pub slice_bounds-sections-end-3 : goal.slice_bounds-sections-end-3
slice_bounds-sections-end-3 c =
    sym (length-take-le _ _ (omega (arith, fitting.few c.requires.fitted 5 _ (omega arith) c.read_numbers-l.ensures.value)))

pub slice_bounds-bytes-end : goal.slice_bounds-bytes-end
slice_bounds-bytes-end c =
    omega (arith, fitting.few c.requires.fitted 6 _ (omega arith) c.read_numbers-b.ensures.value)

pub slice_bounds-sections-end-4 : goal.slice_bounds-sections-end-4
slice_bounds-sections-end-4 c =
    sym (length-take-le _ _ (omega (arith, fitting.few c.requires.fitted 6 _ (omega arith) c.read_numbers-b.ensures.value)))

pub slice_bounds-addresses-end : goal.slice_bounds-addresses-end
slice_bounds-addresses-end c =
    omega (arith, fitting.few-addresses c.requires.fitted _ c.read_addresses-a.ensures.value)

pub slice_bounds-answer_lists-end-2 : goal.slice_bounds-answer_lists-end-2
slice_bounds-answer_lists-end-2 c =
    sym (length-take-le _ _ (omega (arith, fitting.few-addresses c.requires.fitted _ c.read_addresses-a.ensures.value)))

pub returns-clause-value : goal.returns-clause-value
returns-clause-value c =
    let e = fitting.lent_is (word_sections c.args.words.now) c.read_number-mode.ensures c.read_number-required.ensures (front-lent _ _ _ _ (c.read_records-r.ensures.value ∙ sym (length-map (record_groups (word_sections c.args.words.now)) row_of)) c.read_records-r.ensures.out_after) (laws.numbers-lent _ _ _ _ c.read_numbers-i.ensures.value c.read_numbers-i.ensures.out_after) (laws.numbers-lent _ _ _ _ c.read_numbers-o.ensures.value c.read_numbers-o.ensures.out_after) c.section-values.ensures (laws.numbers-lent _ _ _ _ c.read_numbers-l.ensures.value c.read_numbers-l.ensures.out_after) (laws.numbers-lent _ _ _ _ c.read_numbers-b.ensures.value c.read_numbers-b.ensures.out_after) c.section-alive.ensures (front-lent _ _ _ _ c.read_addresses-a.ensures.value c.read_addresses-a.ensures.out_after) in
    c.answer_lists.ensures.value ∙ ap (λ (l : Lent). length (listing (join_outcome l))) e

pub returns-clause-out_after : goal.returns-clause-out_after
returns-clause-out_after c =
    let e = fitting.lent_is (word_sections c.args.words.now) c.read_number-mode.ensures c.read_number-required.ensures (front-lent _ _ _ _ (c.read_records-r.ensures.value ∙ sym (length-map (record_groups (word_sections c.args.words.now)) row_of)) c.read_records-r.ensures.out_after) (laws.numbers-lent _ _ _ _ c.read_numbers-i.ensures.value c.read_numbers-i.ensures.out_after) (laws.numbers-lent _ _ _ _ c.read_numbers-o.ensures.value c.read_numbers-o.ensures.out_after) c.section-values.ensures (laws.numbers-lent _ _ _ _ c.read_numbers-l.ensures.value c.read_numbers-l.ensures.out_after) (laws.numbers-lent _ _ _ _ c.read_numbers-b.ensures.value c.read_numbers-b.ensures.out_after) c.section-alive.ensures (front-lent _ _ _ _ c.read_addresses-a.ensures.value c.read_addresses-a.ensures.out_after) in
    c.answer_lists.ensures.out_after ∙ ap (λ (l : Lent). put 0 (listing (join_outcome l)) c.args.out.now) e
