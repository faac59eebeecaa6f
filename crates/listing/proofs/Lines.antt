-- The listing's lines, taken apart as the code writes them. Assumes nothing.
use mathlib.Core.Path.{◌≡◌, refl, sym, ap}
use mathlib.Core.Bool.{true, false}
use borrow.Author.Tests.{eqb-true}
use Rattle.std.specs.Bool.{◌==◌}
use mathlib.Core.List.{List, [], ◌∷◌, ◌++◌, map, map-id}
use Prim.Native.Nat.{ℕ, ◌+◌, ◌≤◌, ◌<◌, ◌/◌, ◌%◌}
use native.Mathlib.Numerals.{add-one}
use native.Mathlib.Omega.{arith}
use lib.ListN.{length, drop, take, get_or, drop_of_length-le}
use lib.Seq.{drop-cons}
use Rattle.definitions.specs.Lists.{sum}
use Rattle.definitions.specs.Segment.{cut}
use Rattle.definitions.proofs.Sections.{cut-length}
use Rattle.definitions.specs.Listing.{decimal, numbers_text, term_text, terms_text, hexadecimal, value_line, counted_line, terms_line, digit, newline, space, numbers_part, lists_part, terms_part, type_name, class_name, rows_name, ids_name, offsets_name, values_name, terms_name, maps_name, answer_name, accepted_text}

pub value-is : (name : List ℕ) (n : ℕ) → value_line name n ≡ name ++ (decimal n ++ newline)
unfolding value_line
value-is name n = refl

pub counted_is : (name : List ℕ) (n : ℕ) (ns : List ℕ) → counted_line name n ns ≡ name ++ (decimal n ++ (numbers_text ns ++ newline))
unfolding counted_line
counted_is name n ns = refl

module _ {A : Type 0} (f : A → ℕ) (ns : List A) (i : ℕ) where
  pub numbers_step : (x : A) (v : ℕ) → i < length ns → x ≡ get_or ns i x → v ≡ f x → numbers_text (map f (drop i ns)) ≡ space ++ (decimal v ++ numbers_text (map f (drop (i + 1) ns)))
  unfolding numbers_text
  numbers_step x v h e q = rw (add-one i, drop-cons ns i x h, ← e, q)

  pub numbers-end : length ns ≤ i → numbers_text (map f (drop i ns)) ≡ []
  unfolding numbers_text
  numbers-end h = rw (drop_of_length-le ns h)

pub hex_step : (bytes : List ℕ) (i x y : ℕ) → i < length bytes → x ≡ digit (get_or bytes i 0 / 16) → y ≡ digit (get_or bytes i 0 % 16)
    → hexadecimal (drop i bytes) ≡ (x ∷ []) ++ ((y ∷ []) ++ hexadecimal (drop (i + 1) bytes))
unfolding hexadecimal
hex_step bytes i x y h e f = rw (add-one i, drop-cons bytes i 0, e, f)

pub hex_end : (bytes : List ℕ) (i : ℕ) → length bytes ≤ i → hexadecimal (drop i bytes) ≡ []
unfolding hexadecimal
hex_end bytes i h = rw (drop_of_length-le bytes h)

pub term_none : (t : List ℕ) → true ≡ (length t == 0) → term_text t ≡ 45 ∷ []
unfolding term_text
term_none [] h = refl
term_none (b ∷ bs) h = absurd (omega (arith, eqb-true (length (b ∷ bs)) 0 (sym h)))

pub term_some : (t : List ℕ) → false ≡ (length t == 0) → term_text t ≡ hexadecimal t
unfolding term_text
term_some [] h = absurd (cc)
term_some (b ∷ bs) h = refl

-- the term that stands first
pub terms_step : (ls rest term after : List ℕ) (i : ℕ) → i < length ls → term ≡ take (get_or ls i 0) rest → after ≡ drop (get_or ls i 0) rest
    → terms_text (cut (drop i ls) rest) ≡ space ++ (term_text term ++ terms_text (cut (drop (i + 1) ls) after))
unfolding terms_text
terms_step ls rest term after i h e f = rw (add-one i, drop-cons ls i 0, e, f)

-- what is left of the bytes suffices
pub terms-left : (ls : List ℕ) (i n m : ℕ) → i < length ls → sum (drop i ls) ≤ m → n + get_or ls i 0 ≡ m → sum (drop (i + 1) ls) ≤ n
terms-left ls i n m h l e = let s = ap sum (drop-cons ls i 0 h) in rw (add-one i) (omega arith)

pub terms-end : (ls bytes : List ℕ) (i : ℕ) → length ls ≤ i → terms_text (cut (drop i ls) bytes) ≡ []
unfolding terms_text
terms-end ls bytes i h = rw (drop_of_length-le ls h)

pub terms-is : (name ls bytes : List ℕ) → terms_line name (cut ls bytes) ≡ name ++ (decimal (length ls) ++ (terms_text (cut ls bytes) ++ newline))
unfolding terms_line
terms-is name ls bytes = rw (cut-length ls bytes)

pub numbers-part-is : (t c r : ℕ) → numbers_part t c r ≡ value_line type_name t ++ (value_line class_name c ++ value_line rows_name r)
unfolding numbers_part
numbers-part-is t c r = refl

pub lists_part-is : (ids offsets : List ℕ) (n : ℕ) (words : List ℕ)
    → lists_part ids offsets n words ≡ counted_line ids_name (length ids) (map (λ n. n) ids) ++ (counted_line offsets_name (length offsets) (map (λ n. n) offsets) ++ counted_line values_name n (map (λ n. n) words))
unfolding lists_part
lists_part-is ids offsets n words = rw (map-id ids, map-id offsets, map-id words)

pub terms-part-is : (ts : List (List ℕ)) (m : List ℕ) → terms_part ts m ≡ terms_line terms_name ts ++ counted_line maps_name (length m) (map (λ n. n) m)
unfolding terms_part
terms-part-is ts m = rw (map-id m)

pub accepted-is : (t c r : ℕ) (ids offsets : List ℕ) (n : ℕ) (words : List ℕ) (ts : List (List ℕ)) (m : List ℕ)
    → accepted_text t c r ids offsets n words ts m ≡ value_line answer_name 0 ++ (numbers_part t c r ++ (lists_part ids offsets n words ++ terms_part ts m))
unfolding accepted_text
accepted-is t c r ids offsets n words ts m = refl
