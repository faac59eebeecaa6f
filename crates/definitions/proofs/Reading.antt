-- Whatever the length of an input, a program that has place for one byte more than are taken reads enough of it. Assumes nothing.
use Prim.Native.Nat.{ℕ, ◌<◌, min}
use native.Mathlib.Omega.{arith}
use mathlib.Core.Path.{◌≡◌, refl, sym, ap, ◌∙◌}
use mathlib.Core.Bool.{Bool, true, false}
use mathlib.Core.List.{List}
use lib.ListN.{length, take, length-take}
use lib.Seq.{take_all}
use lib.Dec.{leb}
use borrow.Author.Tests.{leb-true, leb-false, lt-leb}
use Rattle.definitions.specs.Wire.{most_bytes, whole_words, bytes_fit}
use Rattle.definitions.specs.Listing.{answer_name, value_line, reply, Enough}

-- an input that is too long
too_long : (bytes : List ℕ) → most_bytes < length bytes → reply bytes ≡ value_line answer_name 2
unfolding reply bytes_fit whole_words
too_long bytes h = rw (lt-leb (length bytes) most_bytes h)

still_too_long : (n l m : ℕ) → m < n → m < l → m < min n l
still_too_long n l m h k = omega arith

pub read_enough : (n : ℕ) → most_bytes < n → Enough n
read_enough n h bytes = go (leb (length bytes) most_bytes) refl
  where
    go : (b : Bool) → leb (length bytes) most_bytes ≡ b → reply (take n bytes) ≡ reply bytes
    go true e = let l = leb-true (length bytes) most_bytes e in ap reply (take_all n bytes (omega arith))
    go false e =
        let l = leb-false (length bytes) most_bytes e in
        too_long (take n bytes) (rw (length-take n bytes) (still_too_long n (length bytes) most_bytes h l)) ∙ sym (too_long bytes l)
