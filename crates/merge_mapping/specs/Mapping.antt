-- The checks 8 and 9, each over just what it reads, and the bits that 9 keeps in the working bytes, where the table says that the segments stand.
-- proofs/Own.antt says that the checks are the definitions' own. Assumes nothing.
use Rattle.std.specs.Prelude.{ℕ, zero, suc, ◌+◌, ◌-◌, ◌*◌, ◌/◌, ◌%◌, ◌^◌, ◌≤◌, ◌<◌, ◌≡◌, List, [], ◌∷◌, Bool, true, false, ◌&&◌, ◌||◌, cond, not, length, get_or, set, replicate, eqb, ltb}
use Rattle.definitions.specs.Lists.{any}
use Rattle.definitions.specs.Segment.{Segment, SegmentRecord, Address, alive_words, segments_from}
use Rattle.definitions.specs.Answer.{total, alive_set_wrong, lists_alive_rows}
use Rattle.segment.specs.Records.{sections_in}
use Rattle.runs.specs.Put.{put}
use Rattle.stands.specs.declared.Stand.{Stand}
use Rattle.stands.specs.Stand.{table, many, Lies, stand_at}
use Rattle.stands.specs.Look.{alive_set_at}

abbrev pub rows_in : SegmentRecord → ℕ
rows_in r = r.rows

-- ---- a bit for each row: row r of a segment has bit r % 8 of byte r / 8, from the segment's first working byte on

abbrev pub bytes_for : ℕ → ℕ
bytes_for rows = (rows + 7) / 8

-- byte i of a segment's alive bits; without an alive set every row is alive
unfoldable pub alive_byte : ℕ → List ℕ → ℕ → ℕ → ℕ
alive_byte flag words rows i = cond (eqb flag 1) (get_or words (i / 8) 0 / 2 ^ (8 * (i % 8)) % 256) (255 / 2 ^ (8 * i + 8 - rows))

unfoldable pub alive_bytes : ℕ → List ℕ → ℕ → List ℕ
alive_bytes flag words rows = table (alive_byte flag words rows) (bytes_for rows)

-- the bytes with the bits of the first s segments laid out
unfoldable pub laid_out : List (List ℕ) → List ℕ → List ℕ → ℕ → List ℕ
laid_out stands alive bits zero = bits
laid_out stands alive bits (suc s) = put (stand_at stands s).work (alive_bytes (stand_at stands s).flag (alive_set_at (stand_at stands s) alive) (stand_at stands s).rows) (laid_out stands alive bits s)

-- a segment's alive words are there, and enough
pub record Worded (p : Stand) (alive : List ℕ) : Type 0 where
  pub lie : Lies p.alive alive
  pub enough : p.flag ≡ 1 → p.rows ≤ 64 * many p.alive

abbrev pub AllWorded : List (List ℕ) → List ℕ → Type 0
AllWorded stands alive = (k : ℕ) → k < length stands → Worded (stand_at stands k) alive

-- there is a byte for each row
abbrev pub Room : List (List ℕ) → List ℕ → Type 0
Room stands bits = (k : ℕ) → k < length stands → (stand_at stands k).work + (stand_at stands k).rows ≤ length bits

-- ---- bits cleared, one for each address

abbrev pub byte_of : List (List ℕ) → Address → ℕ
byte_of stands a = (stand_at stands a.segment).work + a.row / 8

-- the address is of a row whose bit is set
unfoldable pub is_left : List (List ℕ) → List ℕ → Address → Bool
is_left stands bits a =
    ltb a.segment (length stands)
    && (ltb a.row (stand_at stands a.segment).rows
    && eqb (get_or bits (byte_of stands a) 0 / 2 ^ (a.row % 8) % 2) 1)

-- the bytes with that bit cleared
unfoldable pub without : List (List ℕ) → List ℕ → Address → List ℕ
without stands bits a = set bits (byte_of stands a) (get_or bits (byte_of stands a) 0 - 2 ^ (a.row % 8))

-- each address finds its bit set
unfoldable pub takes : List (List ℕ) → List ℕ → List Address → Bool
takes stands bits [] = true
takes stands bits (a ∷ bs) = is_left stands bits a && takes stands (without stands bits a) bs

-- the bytes after them, up to the first that does not
unfoldable pub left_by : List (List ℕ) → List ℕ → List Address → List ℕ
left_by stands bits [] = bits
left_by stands bits (a ∷ bs) = cond (is_left stands bits a) (left_by stands (without stands bits a) bs) bits

-- ---- 9

-- the segments as 6 and 9 read them: of the sections, the alive words alone
abbrev pub segments_by : List SegmentRecord → List ℕ → List Segment
segments_by rs alive = segments_from rs (sections_in [] [] [] [] [] alive)

unfoldable pub addresses_right : ℕ → List SegmentRecord → List ℕ → List Address → Bool
addresses_right mode rs alive bs = cond (eqb mode 0) (eqb (length bs) 0) (lists_alive_rows (segments_by rs alive) bs)

-- what 1, 2 and 6 say of the segments, and a byte of 0 for each row
pub record Blank (rs : List SegmentRecord) (alive bits : List ℕ) : Type 0 where
  pub few : length rs ≤ 256
  pub held : total alive_words rs ≤ length alive
  pub within : any alive_set_wrong (segments_by rs alive) ≡ false
  pub long : length bits ≡ total rows_in rs
  pub clean : bits ≡ replicate (length bits) 0

-- what the checks before 9 have established, and the working bytes are zero
pub record BeforeNine (mode rows : ℕ) (rs : List SegmentRecord) (alive work : List ℕ) : Type 0 where
  pub few : length rs ≤ 256
  pub held : total alive_words rs ≤ length alive
  pub within : any alive_set_wrong (segments_by rs alive) ≡ false
  pub counted : rows ≡ total rows_in rs
  pub room : (mode ≡ 0 → ⊥) → rows ≤ length work
  pub clean : work ≡ replicate (length work) 0

-- ---- 8

unfoldable pub room_enough : ℕ → ℕ → ℕ → ℕ → Bool
room_enough mode rows terms working = not (eqb mode 1) || not (ltb working (rows + terms))
