-- What the readers carry on from one turn of their loops to the next. Assumes nothing.
use mathlib.Core.Path.{◌≡◌, refl, sym, ap, ap₂, ◌∙◌}
use mathlib.Core.List.{List, [], ◌∷◌, ◌++◌, append-nil, append_assoc}
use Prim.Native.Nat.{ℕ, suc, ◌+◌, ◌-◌, ◌*◌, ◌≤◌, ◌<◌, min}
use native.Mathlib.Numerals.{add-one}
use native.Mathlib.Omega.{arith}
use lib.ListN.{length, take, drop, set, length-set}
use lib.Seq.{take-suc-set}
use mathlib.Core.Bool.{true, false}
use Rattle.std.specs.Prelude.{None, Some}
use Rattle.std.specs.Option.{is_some}
use Rattle.std.proofs.lemmas.List.{take_all}
use borrow.Author.Tests.{lt-ltb, le-ltb}
use Rattle.case_text.specs.Text.{digit_of, skipped, digits_from, number_in, capped_in, read_from, row_in, rest_after, Listed}

-- i elements of out are read, and what is left to read follows them
pub record Reading {A : Type 0} (f : List ℕ → A × List ℕ) (text₀ : List ℕ) (out₀ : List A) (text : List ℕ) (out : List A) (i : ℕ) : Type 0 where
  pub room : length out ≡ length out₀
  pub behind : rest_after f (length out₀ - i) text ≡ rest_after f (length out₀) text₀
  pub written : take i out ++ read_from f (length out₀ - i) text ≡ read_from f (length out₀) text₀

module _ {A : Type 0} {f : List ℕ → A × List ℕ} {text₀ : List ℕ} {out₀ : List A} where
  pub reading_step : {text text' : List ℕ} {out : List A} {i : ℕ} {x : A} → Reading f text₀ out₀ text out i → i < length out₀ → (x, text') ≡ f text → Reading f text₀ out₀ text' (set out i x) (i + 1)
  unfolding read_from rest_after
  reading_step {text} {text'} {out} {i} {x} r h e =
      let m : length out₀ - i ≡ suc (length out₀ - (i + 1)) = omega arith in
      let l : i < length out = omega (arith, r.room) in
      record {
        room = rw (length-set out i x) r.room;
        behind = ap (λ (p : A × List ℕ). rest_after f (length out₀ - (i + 1)) p.1) e ∙ ap (λ (k : ℕ). rest_after f k text) (sym m) ∙ r.behind;
        written =
            ap (λ (l : List A). l ++ read_from f (length out₀ - (i + 1)) text') (ap (λ (k : ℕ). take k (set out i x)) (add-one i) ∙ take-suc-set out i x l)
            ∙ append_assoc (take i out) (x ∷ []) (read_from f (length out₀ - (i + 1)) text')
            ∙ ap (λ (p : A × List ℕ). take i out ++ (p.0 ∷ read_from f (length out₀ - (i + 1)) p.1)) e
            ∙ ap (λ (k : ℕ). take i out ++ read_from f k text) (sym m)
            ∙ r.written;
      }

  pub reading_end : {text : List ℕ} {out : List A} {i : ℕ} → Reading f text₀ out₀ text out i → length out₀ ≤ i → (out ≡ read_from f (length out₀) text₀) × (text ≡ rest_after f (length out₀) text₀)
  unfolding read_from rest_after
  reading_end {text} {out} {i} r h =
      let z : length out₀ - i ≡ 0 = omega arith in (
        sym (append-nil out)
            ∙ ap (λ (l : List A). l ++ []) (sym (take_all i out (omega (arith, r.room))))
            ∙ ap (λ (m : ℕ). take i out ++ read_from f m text) (sym z)
            ∙ r.written,
        ap (λ (m : ℕ). rest_after f m text) (sym z) ∙ r.behind,
      )

-- ---- a text by its first byte

pub skipped-end : (l : List ℕ) → length l ≡ 0 → l ≡ skipped l
unfolding skipped
skipped-end [] h = refl
skipped-end (b ∷ bs) h = absurd (omega arith)

pub digits-end : (n : ℕ) (l : List ℕ) → length l ≡ 0 → (n, l) ≡ digits_from n l
unfolding digits_from
digits-end n [] h = refl
digits-end n (b ∷ bs) h = absurd (omega arith)

module _ {l bs : List ℕ} {b : ℕ} (f : l ≡ b ∷ bs) where
  pub skipped-here : is_some (digit_of b) ≡ true → l ≡ skipped l
  unfolding skipped
  skipped-here k = rw (f, k)

  pub skipped_on : is_some (digit_of b) ≡ false → skipped bs ≡ skipped l
  unfolding skipped
  skipped_on k = rw (f, k)

  pub digits-stop : (n : ℕ) → digit_of b ≡ None → (n, l) ≡ digits_from n l
  unfolding digits_from
  digits-stop n k = rw (f, k, digits_from)

  module _ (n d : ℕ) (e : digit_of b ≡ Some d) where
    pub digits_wide : 1152921504606846975 < n → (n, l) ≡ digits_from n l
    unfolding digits_from
    digits_wide w = rw (f, e, digits_from, lt-ltb 1152921504606846975 n w)

    pub digits_on : n ≤ 1152921504606846975 → digits_from (n * 16 + d) bs ≡ digits_from n l
    unfolding digits_from
    digits_on w = rw (f, e, digits_from, le-ltb 1152921504606846975 n w)

pub number_start : (text l : List ℕ) → l ≡ skipped text → digits_from 0 l ≡ number_in text
unfolding number_in
number_start text l e = ap (digits_from 0) e

pub capped_is : (most : ℕ) (text : List ℕ) {v x : ℕ} {left : List ℕ} → (v, left) ≡ number_in text → x ≡ min v most → (x, left) ≡ capped_in most text
unfolding capped_in
capped_is most text {v} {x} {left} e k = ap (λ (y : ℕ). (y, left)) k ∙ ap (λ (p : ℕ × List ℕ). (min p.0 most, p.1)) e

-- a list, from its count and the part of out that was filled
pub listed : {A : Type 0} {f : List ℕ → A × List ℕ} {text left left' : List ℕ} {out part : List A} {n m : ℕ} → (n, left) ≡ capped_in (length out) text → m ≡ n → part ≡ read_from f m left → left' ≡ rest_after f m left
    → Listed f text out n left' (part ++ drop n out)
unfolding capped_in
listed {A} {f} {text} {left} {left'} {out} {part} {n} {m} e q p r =
    let a = ap (λ (p : ℕ × List ℕ). p.0) e in
    let b = ap (λ (p : ℕ × List ℕ). p.1) e in
    record {
      count = a;
      behind = r ∙ ap (λ (k : ℕ). rest_after f k left) q ∙ ap (rest_after f n) b;
      written = ap (λ (l : List A). l ++ drop n out) (p ∙ ap (λ (k : ℕ). read_from f k left) q ∙ ap (read_from f n) b);
    }

pub row_is : (k : ℕ) (text : List ℕ) {m : ℕ} {row left : List ℕ} → m ≡ k → row ≡ read_from (capped_in 4294967295) m text → left ≡ rest_after (capped_in 4294967295) m text → (row, left) ≡ row_in k text
unfolding row_in
row_is k text {m} {row} {left} e p q = ap₂ (λ (r l : List ℕ). (r, l)) p q ∙ ap (λ (n : ℕ). row_in n text) e
