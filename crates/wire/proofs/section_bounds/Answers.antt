use borrow.Author.Rules.{rules}
use mathlib.Core.Path.{refl, sym, ◌∙◌}
use mathlib.Core.List.{List, [], ◌∷◌, ◌++◌}
use Prim.Native.Nat.{ℕ, ◌+◌}
use native.Mathlib.Omega.{arith}
use lib.ListN.{length-set}
use Rattle.definitions.specs.Wire.{word_sections, ends_from}
use Rattle.runs.proofs.Laws.{put_one, fill-from, fill_as, fill_room, fill_more, fill_done}
use Rattle.wire.proofs.Sections as laws
use Rattle.wire.proofs.section_bounds.Goals as goal

pub loop-k-init : goal.loop-k-init
loop-k-init c =
    let w : List ℕ = c.args.words.now in
    (search rules, fill_as (fill-from 1 (ends_from 0 (word_sections w)) _ (simp length-set (omega (arith, laws.ends-room w)))) _ (laws.left_start w))

pub returns-in_default-clause-value : goal.returns-in_default-clause-value
returns-in_default-clause-value c =
    let w : List ℕ = c.args.words.now in
    let r = fill_done (fill_as c.loop-k.invariant.1 [] (laws.left_cut w _ _ c.loop-k-test.true (sym c.section_end.ensures ∙ c.in_default.is))) refl in
    (laws.bounds_done w c.args.bounds.now _ _ c.requires r.0 r.1).0

pub returns-in_default-clause-bounds_after : goal.returns-in_default-clause-bounds_after
returns-in_default-clause-bounds_after c =
    let w : List ℕ = c.args.words.now in
    let r = fill_done (fill_as c.loop-k.invariant.1 [] (laws.left_cut w _ _ c.loop-k-test.true (sym c.section_end.ensures ∙ c.in_default.is))) refl in
    (laws.bounds_done w c.args.bounds.now _ _ c.requires r.0 r.1).1

pub loop-k-preserved : goal.loop-k-preserved
loop-k-preserved c =
    let w : List ℕ = c.args.words.now in
    let k : ℕ = c.loop-k.k in
    let end : ℕ = c.in-Some.end in
    let m = laws.left-more w k c.loop-k.at end c.loop-k-test.true (sym c.section_end.ensures ∙ c.in-Some.is) in
    let e : List ℕ = end ∷ [] in
    let v = fill_as c.loop-k.invariant.1 (e ++ laws.ends_left w (k + 1) end) m.1 in
    let r = fill_room v e (laws.ends_left w (k + 1) end) refl in
    (m.0, fill_more v e (laws.ends_left w (k + 1) end) refl _ (k + 1 + 1) refl (put_one (k + 1) end _ (omega arith)))

pub returns-clause-value : goal.returns-clause-value
returns-clause-value c =
    let w : List ℕ = c.args.words.now in
    let r = fill_done (fill_as c.loop-k.invariant.1 [] (laws.left_end w _ _ c.loop-k-test.false)) refl in
    omega (arith, (laws.bounds_done w c.args.bounds.now _ _ c.requires r.0 r.1).0)

pub returns-clause-bounds_after : goal.returns-clause-bounds_after
returns-clause-bounds_after c =
    let w : List ℕ = c.args.words.now in
    let r = fill_done (fill_as c.loop-k.invariant.1 [] (laws.left_end w _ _ c.loop-k-test.false)) refl in
    (laws.bounds_done w c.args.bounds.now _ _ c.requires r.0 r.1).1
