-- What a fitting input has, and the words and bounds that were read of it. Assumes nothing.
use mathlib.Core.Path.{◌≡◌, refl, sym, ap, ap₂, ◌∙◌}
use mathlib.Core.List.{List, [], ◌∷◌, map}
use mathlib.Core.Bool.{Bool, true, false, ◌&&◌, cond, not}
use Prim.Native.Nat.{ℕ, ◌/◌, ◌≤◌, ◌<◌}
use native.Mathlib.Omega.{arith}
use borrow.Author.Tests.{eqb-true, not-false}
use lib.Dec.{eqb}
use lib.ListN.{length, get_or, take}
use Rattle.definitions.specs.Segment.{SegmentRecord, record_from, record_width}
use Rattle.segment.specs.Records.{row_of, records_of}
use Rattle.segment.proofs.Rows.{numbers_back}
use Rattle.definitions.specs.Wire.{word_sections, section_at, ends_from, records_narrow, widths_fit, words_fit, words_of, whole_words, bytes_fit, record_groups, address_groups, lent_from, program_buffers}
use Rattle.definitions.specs.Lists.{all_below}
use Rattle.definitions.specs.Outcome.{lent_of}
use Rattle.wire.specs.Bounds.{Narrow, NarrowRecords, Fitted, bounds_of}
use Rattle.runs.specs.Put.{put}
use Rattle.wire.proofs.Sections.{part_of, part-short, bounded, grouped-length}
use Rattle.runs.proofs.Laws.{front-lent}
use Rattle.lists.proofs.Tests.{both_true}
use Rattle.wire.proofs.Words.{words-length}
use Rattle.wire.proofs.Input.{whole-short}

-- what words that fit have
pub record Fitting (words : List ℕ) : Type 0 where
  pub nine : length (word_sections words) ≡ 9
  pub two : length (section_at (word_sections words) 0) ≡ 2
  pub head : all_below 4294967296 (section_at (word_sections words) 0) ≡ true
  pub records : records_narrow (record_groups (word_sections words)) ≡ true
  pub ids : all_below 4294967296 (section_at (word_sections words) 2) ≡ true
  pub offsets : all_below 4294967296 (section_at (word_sections words) 3) ≡ true
  pub lengths : all_below 4294967296 (section_at (word_sections words) 5) ≡ true
  pub bytes : all_below 256 (section_at (word_sections words) 6) ≡ true
  pub addresses : all_below 4294967296 (section_at (word_sections words) 8) ≡ true

pub fitting : (words : List ℕ) → words_fit words ≡ true → Fitting words
unfolding words_fit widths_fit
fitting words h =
    let ss : List (List ℕ) = word_sections words in
    let r8 : Bool = all_below 4294967296 (section_at ss 8) in
    let r6 : Bool = all_below 256 (section_at ss 6) && r8 in
    let r5 : Bool = all_below 4294967296 (section_at ss 5) && r6 in
    let r3 : Bool = all_below 4294967296 (section_at ss 3) && r5 in
    let r2 : Bool = all_below 4294967296 (section_at ss 2) && r3 in
    let r1 : Bool = records_narrow (record_groups ss) && r2 in
    let r0 : Bool = all_below 4294967296 (section_at ss 0) && r1 in
    let q2 : Bool = eqb (length (section_at ss 0)) 2 && r0 in
    let q1 : Bool = eqb (get_or (ends_from 0 ss) 8 0) (length words) && q2 in
    let a = both_true (eqb (length ss) 9) q1 h in
    let b = both_true (eqb (get_or (ends_from 0 ss) 8 0) (length words)) q2 a.1 in
    let c = both_true (eqb (length (section_at ss 0)) 2) r0 b.1 in
    let w0 = both_true (all_below 4294967296 (section_at ss 0)) r1 c.1 in
    let w1 = both_true (records_narrow (record_groups ss)) r2 w0.1 in
    let w2 = both_true (all_below 4294967296 (section_at ss 2)) r3 w1.1 in
    let w3 = both_true (all_below 4294967296 (section_at ss 3)) r5 w2.1 in
    let w5 = both_true (all_below 4294967296 (section_at ss 5)) r6 w3.1 in
    let w6 = both_true (all_below 256 (section_at ss 6)) r8 w5.1 in
    record {
      nine = eqb-true (length ss) 9 a.0;
      two = eqb-true (length (section_at ss 0)) 2 c.0;
      head = w0.0;
      records = w1.0;
      ids = w2.0;
      offsets = w3.0;
      lengths = w5.0;
      bytes = w6.0;
      addresses = w6.1;
    }

pub bytes_fitting : (l : List ℕ) (r : Bool) → r ≡ bytes_fit l → not r ≡ false → (bytes_fit l ≡ true) × (whole_words l ≡ true) × (words_fit (words_of l) ≡ true)
unfolding bytes_fit
bytes_fitting l r e h =
    let t : whole_words l && words_fit (words_of l) ≡ true = sym e ∙ not-false r h in
    let p = both_true (whole_words l) (words_fit (words_of l)) t in
    (t, p.0, p.1)

-- ---- what the program reads of an input that fits

module _ {words bounds : List ℕ} (f : Fitted words bounds) where
  -- every one of the nine sections stands
  pub stands : (k : ℕ) → k < 9 → k < length (word_sections words)
  stands k h = omega (arith, (fitting words f.fits).nine)

  pub two-numbers : (i : ℕ) → i < 2 → i < length (section_at (word_sections words) 0)
  two-numbers i h = omega (arith, (fitting words f.fits).two)

  -- no section is longer than the program's arrays
  pub few : (k n : ℕ) → k < 9 → n ≡ length (section_at (word_sections words) k) → n ≤ 8192
  few k n h e = omega (arith, part-short _ _ _ _ (part_of words bounds k f.bounded (stands k h)), f.short)

  pub few-records : (n : ℕ) → n ≡ length (record_groups (word_sections words)) → n ≤ 1024
  unfolding record_groups
  few-records n e = omega (arith, grouped-length record_width (length (section_at (word_sections words) 1) / record_width) (section_at (word_sections words) 1), few 1 _ (omega arith) refl)

  pub few-addresses : (n : ℕ) → n ≡ length (address_groups (word_sections words)) → n ≤ 4096
  unfolding address_groups
  few-addresses n e = omega (arith, grouped-length 2 (length (section_at (word_sections words) 8) / 2) (section_at (word_sections words) 8), few 8 _ (omega arith) refl)

  -- and none is wider
  pub narrow_head : Narrow words bounds 0 4294967296
  narrow_head = record { bounded = f.bounded; stands = stands 0 (omega arith); below = (fitting words f.fits).head }

  pub narrow-records : NarrowRecords words bounds
  narrow-records = record { bounded = f.bounded; stands = stands 1 (omega arith); below = (fitting words f.fits).records }

  pub narrow-ids : Narrow words bounds 2 4294967296
  narrow-ids = record { bounded = f.bounded; stands = stands 2 (omega arith); below = (fitting words f.fits).ids }

  pub narrow-offsets : Narrow words bounds 3 4294967296
  narrow-offsets = record { bounded = f.bounded; stands = stands 3 (omega arith); below = (fitting words f.fits).offsets }

  pub narrow-lengths : Narrow words bounds 5 4294967296
  narrow-lengths = record { bounded = f.bounded; stands = stands 5 (omega arith); below = (fitting words f.fits).lengths }

  pub narrow-bytes : Narrow words bounds 6 256
  narrow-bytes = record { bounded = f.bounded; stands = stands 6 (omega arith); below = (fitting words f.fits).bytes }

  pub narrow-addresses : Narrow words bounds 8 4294967296
  narrow-addresses = record { bounded = f.bounded; stands = stands 8 (omega arith); below = (fitting words f.fits).addresses }

records_back : (gs : List (List ℕ)) → records_of (map row_of gs) ≡ map record_from gs
records_back [] = refl
records_back (g ∷ gs) = ap₂ (λ (r : SegmentRecord) (rs : List SegmentRecord). r ∷ rs) (numbers_back g) (records_back gs)

-- the lists that are read are those of the call that the bytes ask for
pub lent_is : (ss : List (List ℕ)) {mode required : ℕ} {records : List (List ℕ)} {ids offsets values lengths bytes alive : List ℕ} {addresses : List (List ℕ)}
    → mode ≡ get_or (section_at ss 0) 0 0 → required ≡ get_or (section_at ss 0) 1 0 → records ≡ map row_of (record_groups ss) → ids ≡ section_at ss 2 → offsets ≡ section_at ss 3
    → values ≡ section_at ss 4 → lengths ≡ section_at ss 5 → bytes ≡ section_at ss 6 → alive ≡ section_at ss 7 → addresses ≡ address_groups ss
    → lent_of mode required (records_of records) ids offsets values lengths bytes alive addresses program_buffers ≡ lent_from ss
unfolding lent_from
lent_is ss m q r d o v l b a x = λ i. lent_of (m i) (q i) ((ap records_of r ∙ records_back (record_groups ss)) i) (d i) (o i) (v i) (l i) (b i) (a i) (x i) program_buffers

-- the program's state once an input was found to fit: v are the words lent, b their bounds
pub record Ready (l v b : List ℕ) : Type 0 where
  pub list : v ≡ words_of l
  pub fitted : Fitted v b
  pub said : bytes_fit l ≡ true
  pub room : length l / 8 ≤ 8192

pub ready : (l w w' b b' : List ℕ) (r : Bool) → r ≡ bytes_fit l → not r ≡ false → w' ≡ cond (whole_words l) (put 0 (words_of l) w) w → b' ≡ cond (whole_words l) (put 0 (bounds_of (words_of l)) b) b → 10 ≤ length b
    → Ready l (take (length l / 8) w') b'
ready l w w' b b' r e h p q room =
    let f = bytes_fitting l r e h in
    let p' : w' ≡ put 0 (words_of l) w = p ∙ ap (λ (t : Bool). cond t (put 0 (words_of l) w) w) f.1 in
    let q' : b' ≡ put 0 (bounds_of (words_of l)) b = q ∙ ap (λ (t : Bool). cond t (put 0 (bounds_of (words_of l)) b) b) f.1 in
    let v : take (length l / 8) w' ≡ words_of l = front-lent (words_of l) w w' (length l / 8) (sym (words-length l)) p' in
    let s = whole-short l f.1 in
    record {
      list = v;
      fitted = record { bounded = rw v (bounded (words_of l) b b' room q'); fits = rw v f.2; short = omega (arith, ap length v, words-length l) };
      said = f.0;
      room = omega arith;
    }
