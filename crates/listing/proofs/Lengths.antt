-- How long a listing can be. Assumes nothing.
use mathlib.Core.Path.{◌≡◌, refl}
use mathlib.Core.List.{List, [], ◌∷◌, ◌++◌}
use Prim.Native.Nat.{ℕ, ◌+◌, ◌*◌, ◌≤◌}
use native.Mathlib.Omega.{arith}
use lib.ListN.{length, take, drop, length-append, length-take, length-drop}
use Rattle.definitions.specs.Segment.{cut}
use Rattle.definitions.specs.Listing.{decimal, hexadecimal, term_text, terms_text, numbers_text, value_line, counted_line, list_line, terms_line, newline, numbers_part, lists_part, terms_part, accepted_text, answer_name, type_name, class_name, rows_name, ids_name, offsets_name, values_name, terms_name, maps_name}
use Rattle.listing.proofs.Decimal.{decimal-length}

pub value-length : (name : List ℕ) (n : ℕ) → length (value_line name n) ≤ length name + 21
unfolding value_line
value-length name n = omega (arith, length-append name (decimal n ++ newline), length-append (decimal n) newline, decimal-length n)

numbers-length : (ns : List ℕ) → length (numbers_text ns) ≤ 21 * length ns
unfolding numbers_text
numbers-length [] = omega arith
numbers-length (n ∷ ns) = omega (arith, length-append (decimal n) (numbers_text ns), decimal-length n, numbers-length ns)

counted-length : (name : List ℕ) (n : ℕ) (ns : List ℕ) → length (counted_line name n ns) ≤ length name + 21 + 21 * length ns
unfolding counted_line
counted-length name n ns =
    omega (arith, length-append name (decimal n ++ (numbers_text ns ++ newline)), length-append (decimal n) (numbers_text ns ++ newline), length-append (numbers_text ns) newline, decimal-length n, numbers-length ns)

hex_length : (bs : List ℕ) → length (hexadecimal bs) ≡ 2 * length bs
unfolding hexadecimal
hex_length [] = refl
hex_length (b ∷ bs) = omega (arith, hex_length bs)

term_length : (t : List ℕ) → length (term_text t) ≤ 1 + 2 * length t
unfolding term_text
term_length [] = omega arith
term_length (b ∷ bs) = omega (arith, hex_length (b ∷ bs))

terms-length : (ls bytes : List ℕ) → length (terms_text (cut ls bytes)) ≤ 2 * length ls + 2 * length bytes
unfolding terms_text
terms-length [] bytes = omega arith
terms-length (n ∷ ls) bytes =
    omega (arith, length-append (term_text (take n bytes)) (terms_text (cut ls (drop n bytes))), term_length (take n bytes), terms-length ls (drop n bytes), length-take n bytes, length-drop n bytes)

terms_line_length : (name ls bytes : List ℕ) → length (terms_line name (cut ls bytes)) ≤ length name + 21 + 2 * length ls + 2 * length bytes
unfolding terms_line
terms_line_length name ls bytes =
    omega (arith, length-append name (decimal (length (cut ls bytes)) ++ (terms_text (cut ls bytes) ++ newline)), length-append (decimal (length (cut ls bytes))) (terms_text (cut ls bytes) ++ newline), length-append (terms_text (cut ls bytes)) newline, decimal-length (length (cut ls bytes)), terms-length ls bytes)

-- every listing of lists of at most 8,192 elements has fewer than 786,432 bytes
pub listing-room : (t c r : ℕ) (ids offsets : List ℕ) (n : ℕ) (words ls bytes m : List ℕ) → length ids ≤ 8192 → length offsets ≤ 8192 → length words ≤ 8192 → length ls ≤ 8192 → length bytes ≤ 8192 → length m ≤ 8192
    → length (accepted_text t c r ids offsets n words (cut ls bytes) m) ≤ 786432
unfolding accepted_text numbers_part lists_part terms_part
listing-room t c r ids offsets n words ls bytes m hi ho hv hl hb hm =
    let p : List ℕ = terms_line terms_name (cut ls bytes) ++ list_line maps_name m in
    let q2 : List ℕ = list_line offsets_name offsets ++ counted_line values_name n words in
    let q : List ℕ = list_line ids_name ids ++ q2 in
    let n2 : List ℕ = value_line class_name c ++ value_line rows_name r in
    let n1 : List ℕ = value_line type_name t ++ n2 in
    let e1 = length-append (value_line answer_name 0) (n1 ++ (q ++ p)) in
    let e2 = length-append n1 (q ++ p) in
    let e3 = length-append q p in
    let e4 = length-append (terms_line terms_name (cut ls bytes)) (list_line maps_name m) in
    let e5 = length-append (list_line ids_name ids) q2 in
    let e6 = length-append (list_line offsets_name offsets) (counted_line values_name n words) in
    let e7 = length-append (value_line type_name t) n2 in
    let e8 = length-append (value_line class_name c) (value_line rows_name r) in
    omega (arith, value-length answer_name 0, value-length type_name t, value-length class_name c, value-length rows_name r, counted-length ids_name (length ids) ids, counted-length offsets_name (length offsets) offsets, counted-length values_name n words, terms_line_length terms_name ls bytes, counted-length maps_name (length m) m)
