-- The answers of the time order as the code finds them are the definitions' own. Assumes nothing.
use Rattle.std.proofs.Common.{◌≡◌, ℕ, Bool, true, false, not, ◌&&◌, ◌||◌, T, eqb, ltb, List, [], ◌∷◌, map, length, take, drop, sym, refl, ap, ◌∙◌, ap₂, arith}
use mathlib.Core.Bool.{or-false}
use lib.Ieee.Fits.{and_l, and_r}
use Rattle.definitions.specs.Lists.{all, any, up_to, not_falling}
use Rattle.definitions.specs.Words.{values_in}
use Rattle.definitions.specs.Segment.{Segment, SegmentRecord, Sections, Input, record_words, first_segment, after_first, segments_from, segments_of}
use Rattle.definitions.specs.Row.{row_values, is_present, no_type}
use Rattle.definitions.specs.Types.{is_known_type, DateTime}
use Rattle.definitions.specs.Checks.{Check, check, first_of, Passed}
use Rattle.definitions.specs.Answer.{total, segment_codes_wrong, codes_wrong, alive_wrong, index_fits, alive_set_wrong, alive_addresses, segment_checks, plain_checks, checks_to_seven}
use Rattle.definitions.specs.TimeOrder.{TimeInput, time_of, times_wrong, time_own_checks, time_checks, time_answer}
use Rattle.definitions.proofs.Words.{unseen}
use Rattle.definitions.proofs.Accept.{index-fits}
use Rattle.definitions.proofs.Checks.{first_stays, first-passed, all-passed, passes}
use Rattle.refusal.specs.declared.Refusal.{Refusal}
use Rattle.refusal.specs.Number.{number_of}
use Rattle.refusal.proofs.Number.{number_not-zero}
use Rattle.segment.specs.Lent.{working_only}
use Rattle.sections_fit.proofs.Seven.{Ready, ready}
use Rattle.definitions.proofs.AliveNumber.{total-number}
use Rattle.time_checks.specs.Times.{singles, times_rise, fits_times, times_from, alive_of}
use Rattle.time_checks.proofs.Several.{several}

-- ---- up to 7

-- the time order's input as that of an ordered join with no required type
abbrev pub as_ordered : TimeInput → Input
as_ordered i = record { mode = 1; required = no_type; records = i.records; sections = i.sections; addresses = []; space = working_only 0 }

-- the checks up to 7 ask the same of both
pub plain_seven : (i : TimeInput) → checks_to_seven (as_ordered i) ≡ plain_checks i.records i.sections
unfolding codes_wrong alive_wrong segments_of is_known_type
plain_seven i =
    let ss = segments_from i.records i.sections in
    ap (λ (b : Bool). segment_checks (segment_codes_wrong ss) b i.records i.sections) (or-false (any alive_set_wrong ss))

-- ---- 12

-- p: present, d: of times, a: some row has several, b: times don't fall
wrong_right : (n d a b : Bool) → (not n && not d) || not a || not b ≡ not ((n || d) && (a && b))
wrong_right true d true true = refl
wrong_right true d true false = refl
wrong_right true d false b = refl
wrong_right false true true true = refl
wrong_right false true true false = refl
wrong_right false true false b = refl
wrong_right false false a b = refl

times-wrong : (s : Segment) → T (index_fits s)
    → (is_present s && not (eqb s.type DateTime)) || any (λ r. ltb 1 (length (row_values s r))) (up_to s.rows) || not (not_falling (map time_of s.values))
    ≡ not ((eqb s.type no_type || eqb s.type DateTime) && (singles s.offsets && times_rise s.values))
unfolding times_rise
times-wrong s fit =
    ap (λ (b : Bool). (is_present s && not (eqb s.type DateTime)) || b || not (not_falling (map time_of s.values))) (several s fit)
    ∙ wrong_right (eqb s.type no_type) (eqb s.type DateTime) (singles s.offsets) (not_falling (map time_of s.values))

not-and : (a b : Bool) → not a || not b ≡ not (a && b)
not-and true b = refl
not-and false b = refl

-- addresses are no times, whatever their words
words-times : (t : ℕ) (b : Bool) (ws : List ℕ) → (eqb t no_type || eqb t DateTime) && (b && times_rise (values_in t ws)) ≡ (eqb t no_type || eqb t DateTime) && (b && times_rise ws)
words-times t b ws = unseen (λ u vs. (eqb u no_type || eqb u DateTime) && (b && times_rise vs)) (λ vs ws. refl) t ws

pub times-all : (rs : List SegmentRecord) (s : Sections) → T (all index_fits (segments_from rs s)) → times_wrong (segments_from rs s) ≡ not (times_from rs s.offsets s.values)
unfolding times_wrong times_from fits_times first_segment after_first
times-all [] s h = refl
times-all (r ∷ rs) s h =
    let f = first_segment r s in
    ap₂ (λ (a b : Bool). a || b) (times-wrong f (and_l (index_fits f) (all index_fits (segments_from rs (after_first r s))) h)) (times-all rs (after_first r s) (and_r (index_fits f) (all index_fits (segments_from rs (after_first r s))) h))
    ∙ not-and ((eqb r.type no_type || eqb r.type DateTime) && (singles (take r.offsets s.offsets) && times_rise (values_in r.type (take (record_words r) s.values)))) (times_from rs (drop r.offsets s.offsets) (drop (record_words r) s.values))
    ∙ ap (λ (b : Bool). not (b && times_from rs (drop r.offsets s.offsets) (drop (record_words r) s.values))) (words-times r.type (singles (take r.offsets s.offsets)) (take (record_words r) s.values))

-- ---- the answers, one after another

module _ (i : TimeInput) where
  abbrev plain : List Check
  plain = plain_checks i.records i.sections

  pub stopped : (f : Refusal) → number_of f ≡ first_of (checks_to_seven (as_ordered i)) → number_of f ≡ time_answer i
  unfolding time_answer time_checks
  stopped f e =
      let p : number_of f ≡ first_of plain = e ∙ ap first_of (plain_seven i) in
      p ∙ first_stays plain (first_of (time_own_checks i)) (λ z. number_not-zero f (p ∙ z))

  module _ (e : 0 ≡ first_of (checks_to_seven (as_ordered i))) where
    passed : Passed (plain_checks i.records i.sections)
    passed = (all-passed plain 0 tt (sym (e ∙ ap first_of (plain_seven i)))).0

    pub first-ready : Ready i.records i.sections
    first-ready = ready i.records i.sections passed

    number_is : total alive_of i.records ≡ length (alive_addresses (segments_from i.records i.sections))
    number_is = total-number i.records i.sections (omega (arith, first-ready.exact.alive)) (passes passed 6)

    -- 11 and 12 as the code asks them
    pub later : time_answer i ≡ first_of (check 11 (ltb i.space (total alive_of i.records)) ∷ check 12 (not (times_from i.records i.sections.offsets i.sections.values)) ∷ [])
    unfolding time_answer time_checks
    later = first-passed plain (first_of (time_own_checks i)) passed ∙ rw (number_is, times-all i.records i.sections (index-fits i.records i.sections passed))
