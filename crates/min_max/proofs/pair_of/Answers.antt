use Rattle.std.proofs.Common.{◌≡◌, ◌<◌, length, get_or, arith}
use Rattle.std.proofs.lemmas.Bool.Decides.{nat_tests}
use Rattle.std.proofs.lemmas.Grind.{common_steps}
use Rattle.definitions.specs.Types.{pair_of}
use Rattle.min_max.specs.Keys.{shift_of, key_of, range_of, range_from, all_keys}
use Rattle.min_max.proofs.Order.{extremes-found, pair-none, pair-some}
use Rattle.min_max.proofs.pair_of.Goals as goal

pub returns-then-t-ne-U64 : goal.returns-then-t-ne-U64
unfolding pair_of
returns-then-t-ne-U64 c = grind (arith, nat_tests)

pub returns-in_default : goal.returns-in_default
returns-in_default c =
    let e : length c.args.words.now ≡ 0 = grind (arith, common_steps) in
    let h = pair-none c.args.t c.args.words.now e in
    grind arith

pub returns : goal.returns
returns c =
    let ws = c.args.words.now in
    let inside : 0 < length ws = grind (arith, common_steps) in
    let first : get_or ws 0 0 ≡ c.in-Some.word = grind (arith, common_steps) in
    let key = key_of (shift_of c.args.t) (get_or ws 0 0) in
    let found : c.range_of-r.result ≡ range_from (range_of key key) (all_keys (shift_of c.args.t) ws) = cc in
    let e = extremes-found c.args.t ws inside (λ k. (c.type_inv.words k).fits) found in
    let s = pair-some c.args.t ws (omega arith) in
    cc
