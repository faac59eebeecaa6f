use mathlib.Core.Path.{◌≡◌, refl, sym, ap, ◌∙◌}
use mathlib.Core.Bool.{true, false, not}
use mathlib.Core.List.{List, []}
use Prim.Native.Nat.{ℕ, ◌≤◌, ◌<◌}
use native.Mathlib.Nat.{le_of_eq}
use lib.ListN.{length}
use borrow.Author.Tests.{lt-ltb, le-ltb}
use Rattle.sections_fit.proofs.Own.{lengths-wrong, exact, input-codes, some-old, lists-wrong, values-wrong, input-alive, sums_large}
use Rattle.sections_fit.specs.declared.Totals.{Totals}
use Rattle.sections_fit.specs.Walks.{sums_right}
use Rattle.segment.specs.Records.{records_of}
use Rattle.segment.specs.Lent.{input_in}
use Rattle.segment.proofs.Walk.{records-long}
use Rattle.definitions.specs.Answer.{too_many_segments}
use Rattle.lists.proofs.Tests.{taken, other}
use Rattle.sections_fit.proofs.first_to_seven.Goals as goal

many : (records : List (List ℕ)) → 256 < length records → too_many_segments (records_of records) ≡ true
unfolding too_many_segments
many records h = lt-ltb 256 (length (records_of records)) (rw (records-long records) h)

few : (records : List (List ℕ)) → length records ≤ 256 → too_many_segments (records_of records) ≡ false
unfolding too_many_segments
few records h = le-ltb 256 (length (records_of records)) (rw (records-long records) h)

sums-of : {t u : Totals} (w : ℕ) → t ≡ u → sums_right u.rows u.values w ≡ sums_right t.rows t.values w
sums-of w e = ap (λ (t : Totals). sums_right t.rows t.values w) (sym e)

pub returns-then-records-gt256 : goal.returns-then-records-gt256
returns-then-records-gt256 c =
    taken _ _ (many c.args.records.now c.if-records-gt256.true)

pub returns-then-not-lengths_fit : goal.returns-then-not-lengths_fit
returns-then-not-lengths_fit c =
    let one = few c.args.records.now c.if-records-gt256.false in
    other _ one (taken _ _ (lengths-wrong _ _ ∙ ap not (sym c.lengths_fit.ensures) ∙ (ap not c.if-not-lengths_fit.true)))

pub returns-then-not-known_codes : goal.returns-then-not-known_codes
returns-then-not-known_codes c =
    let i = input_in c.args.mode c.args.required c.args.records.now c.args.sections.now [] 0 in
    let x = exact _ _ (sym c.lengths_fit.ensures ∙ c.if-not-lengths_fit.false) in
    let one = few c.args.records.now c.if-records-gt256.false in
    let two = lengths-wrong _ _ ∙ ap not (sym c.lengths_fit.ensures) ∙ (ap not c.if-not-lengths_fit.false) in
    other _ one (other _ two (taken _ _ (input-codes i x ∙ ap not (sym c.known_codes.ensures) ∙ (ap not c.if-not-known_codes.true))))

pub returns-then-not-none_old : goal.returns-then-not-none_old
returns-then-not-none_old c =
    let i = input_in c.args.mode c.args.required c.args.records.now c.args.sections.now [] 0 in
    let x = exact _ _ (sym c.lengths_fit.ensures ∙ c.if-not-lengths_fit.false) in
    let one = few c.args.records.now c.if-records-gt256.false in
    let two = lengths-wrong _ _ ∙ ap not (sym c.lengths_fit.ensures) ∙ (ap not c.if-not-lengths_fit.false) in
    let three = input-codes i x ∙ ap not (sym c.known_codes.ensures) ∙ (ap not c.if-not-known_codes.false) in
    other _ one (other _ two (other _ three (taken _ _ (some-old _ _ ∙ ap not (sym c.none_old.ensures) ∙ (ap not c.if-not-none_old.true)))))

pub all_lists_fit-requires : goal.all_lists_fit-requires
all_lists_fit-requires c =
    let x = exact _ _ (sym c.lengths_fit.ensures ∙ c.if-not-lengths_fit.false) in
    record { ids = le_of_eq x.ids; offsets = le_of_eq x.offsets }

pub returns-then-not-all_lists_fit : goal.returns-then-not-all_lists_fit
returns-then-not-all_lists_fit c =
    let i = input_in c.args.mode c.args.required c.args.records.now c.args.sections.now [] 0 in
    let x = exact _ _ (sym c.lengths_fit.ensures ∙ c.if-not-lengths_fit.false) in
    let one = few c.args.records.now c.if-records-gt256.false in
    let two = lengths-wrong _ _ ∙ ap not (sym c.lengths_fit.ensures) ∙ (ap not c.if-not-lengths_fit.false) in
    let three = input-codes i x ∙ ap not (sym c.known_codes.ensures) ∙ (ap not c.if-not-known_codes.false) in
    let old = some-old _ _ ∙ ap not (sym c.none_old.ensures) ∙ (ap not c.if-not-none_old.false) in
    other _ one (other _ two (other _ three (other _ old (taken _ _ (lists-wrong _ _ x old ∙ ap not (sym c.all_lists_fit.ensures) ∙ (ap not c.if-not-all_lists_fit.true))))))

pub all_values_fit-requires : goal.all_values_fit-requires
all_values_fit-requires c =
    let x = exact _ _ (sym c.lengths_fit.ensures ∙ c.if-not-lengths_fit.false) in
    record { words = le_of_eq x.words; terms = le_of_eq x.terms; bytes = le_of_eq x.bytes }

pub returns-then-not-all_values_fit : goal.returns-then-not-all_values_fit
returns-then-not-all_values_fit c =
    let i = input_in c.args.mode c.args.required c.args.records.now c.args.sections.now [] 0 in
    let x = exact _ _ (sym c.lengths_fit.ensures ∙ c.if-not-lengths_fit.false) in
    let one = few c.args.records.now c.if-records-gt256.false in
    let two = lengths-wrong _ _ ∙ ap not (sym c.lengths_fit.ensures) ∙ (ap not c.if-not-lengths_fit.false) in
    let three = input-codes i x ∙ ap not (sym c.known_codes.ensures) ∙ (ap not c.if-not-known_codes.false) in
    let old = some-old _ _ ∙ ap not (sym c.none_old.ensures) ∙ (ap not c.if-not-none_old.false) in
    let four = lists-wrong _ _ x old ∙ ap not (sym c.all_lists_fit.ensures) ∙ (ap not c.if-not-all_lists_fit.false) in
    other _ one (other _ two (other _ three (other _ old (other _ four (taken _ _ (values-wrong _ _ x ∙ ap not (sym c.all_values_fit.ensures) ∙ (ap not c.if-not-all_values_fit.true)))))))

pub all_alive_fit-requires : goal.all_alive_fit-requires
all_alive_fit-requires c =
    le_of_eq (exact _ _ (sym c.lengths_fit.ensures ∙ c.if-not-lengths_fit.false)).alive

pub returns-then-not-all_alive_fit : goal.returns-then-not-all_alive_fit
returns-then-not-all_alive_fit c =
    let i = input_in c.args.mode c.args.required c.args.records.now c.args.sections.now [] 0 in
    let x = exact _ _ (sym c.lengths_fit.ensures ∙ c.if-not-lengths_fit.false) in
    let one = few c.args.records.now c.if-records-gt256.false in
    let two = lengths-wrong _ _ ∙ ap not (sym c.lengths_fit.ensures) ∙ (ap not c.if-not-lengths_fit.false) in
    let three = input-codes i x ∙ ap not (sym c.known_codes.ensures) ∙ (ap not c.if-not-known_codes.false) in
    let old = some-old _ _ ∙ ap not (sym c.none_old.ensures) ∙ (ap not c.if-not-none_old.false) in
    let four = lists-wrong _ _ x old ∙ ap not (sym c.all_lists_fit.ensures) ∙ (ap not c.if-not-all_lists_fit.false) in
    let five = values-wrong _ _ x ∙ ap not (sym c.all_values_fit.ensures) ∙ (ap not c.if-not-all_values_fit.false) in
    other _ one (other _ two (other _ three (other _ old (other _ four (other _ five (taken _ _ (input-alive i ∙ ap not (sym c.all_alive_fit.ensures) ∙ (ap not c.if-not-all_alive_fit.true))))))))

pub returns-then-not-sums_fit : goal.returns-then-not-sums_fit
returns-then-not-sums_fit c =
    let i = input_in c.args.mode c.args.required c.args.records.now c.args.sections.now [] 0 in
    let x = exact _ _ (sym c.lengths_fit.ensures ∙ c.if-not-lengths_fit.false) in
    let one = few c.args.records.now c.if-records-gt256.false in
    let two = lengths-wrong _ _ ∙ ap not (sym c.lengths_fit.ensures) ∙ (ap not c.if-not-lengths_fit.false) in
    let three = input-codes i x ∙ ap not (sym c.known_codes.ensures) ∙ (ap not c.if-not-known_codes.false) in
    let old = some-old _ _ ∙ ap not (sym c.none_old.ensures) ∙ (ap not c.if-not-none_old.false) in
    let four = lists-wrong _ _ x old ∙ ap not (sym c.all_lists_fit.ensures) ∙ (ap not c.if-not-all_lists_fit.false) in
    let five = values-wrong _ _ x ∙ ap not (sym c.all_values_fit.ensures) ∙ (ap not c.if-not-all_values_fit.false) in
    let six = input-alive i ∙ ap not (sym c.all_alive_fit.ensures) ∙ (ap not c.if-not-all_alive_fit.false) in
    other _ one (other _ two (other _ three (other _ old (other _ four (other _ five (other _ six (taken _ _ (sums_large _ _ x ∙ ap not (sums-of _ c.totals_of-t.ensures ∙ sym c.sums_fit.ensures) ∙ (ap not c.if-not-sums_fit.true)))))))))

pub returns : goal.returns
returns c =
    let i = input_in c.args.mode c.args.required c.args.records.now c.args.sections.now [] 0 in
    let x = exact _ _ (sym c.lengths_fit.ensures ∙ c.if-not-lengths_fit.false) in
    let one = few c.args.records.now c.if-records-gt256.false in
    let two = lengths-wrong _ _ ∙ ap not (sym c.lengths_fit.ensures) ∙ (ap not c.if-not-lengths_fit.false) in
    let three = input-codes i x ∙ ap not (sym c.known_codes.ensures) ∙ (ap not c.if-not-known_codes.false) in
    let old = some-old _ _ ∙ ap not (sym c.none_old.ensures) ∙ (ap not c.if-not-none_old.false) in
    let four = lists-wrong _ _ x old ∙ ap not (sym c.all_lists_fit.ensures) ∙ (ap not c.if-not-all_lists_fit.false) in
    let five = values-wrong _ _ x ∙ ap not (sym c.all_values_fit.ensures) ∙ (ap not c.if-not-all_values_fit.false) in
    let six = input-alive i ∙ ap not (sym c.all_alive_fit.ensures) ∙ (ap not c.if-not-all_alive_fit.false) in
    let seven = sums_large _ _ x ∙ ap not (sums-of _ c.totals_of-t.ensures ∙ sym c.sums_fit.ensures) ∙ (ap not c.if-not-sums_fit.false) in
    other _ one (other _ two (other _ three (other _ old (other _ four (other _ five (other _ six (other _ seven refl)))))))
