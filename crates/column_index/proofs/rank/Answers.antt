use borrow.Author.Tests.{ltb-false, leb-false}
use Rattle.std.proofs.Common.{◌+◌, sym, ◌∙◌, ◌-◌, ◌≤◌, length, take, drop, ltb, rules, tests, arith}
use Rattle.std.proofs.lemmas.List.Sorted.{IsPartitionPoint-from_clause}
use Rattle.std.proofs.lemmas.Iterator.{YieldsList-from_slice}
use Rattle.std.proofs.lemmas.Iterator.Consumers.{count_from_yields_List, YieldsList-at}
use Rattle.std.proofs.lemmas.Iterator.Search.{YieldsList-from_take_while}
use Rattle.column_index.specs.Lookup.{rank_in}
use Rattle.column_index.proofs.Laws.{list-cut, part-cut, point-rank, part-rank, reached, climbed}
use Rattle.column_index.proofs.rank.Goals as goal
use Rattle.column_index.proofs.rank.Goals.{else-near-ne0-via-then-near-ne0+else-ids-near, then-near-ids, else-near-ids, else-near-ne0-via-else-near-ne0}

pub returns-then-ids-near : goal.returns-then-ids-near
returns-then-ids-near c =
    let row = c.args.row in
    let ids = c.args.ids.now in
    point-rank row ids c.partition_point.result c.partition_point.ensures.bound
    (IsPartitionPoint-from_clause (λ y. ltb y row) ids c.partition_point.result c.partition_point.ensures.partitioned (list-cut row ids c.requires) (λ a r q k. search rules))

pub returns-then-k-near : goal.returns-then-k-near
returns-then-k-near c =
    let row = c.args.row in
    let ids = c.args.ids.now in
    let near = c.args.near in
    let part = take (c.min-end.result - near) (drop near ids) in
    let low : near ≤ rank_in row ids =
    elim c.else-near-ne0.branch [
      | else-near-ne0-via-then-near-ne0+else-ids-near w ↦ elim w.if-near-ids.branch [
        | then-near-ids v ↦ absurd (let l = ltb-false (length ids) near (sym v.value-is ∙ w.if-ids-near.false) in omega arith)
        | else-near-ids v ↦ reached row ids c.requires near v.if-near-ids.false (leb-false row _ (sym v.value-is ∙ w.if-ids-near.false))
      ]
      | else-near-ne0-via-else-near-ne0 w ↦ omega arith
    ] in
    let at =
    climbed row ids c.requires near c.min-end.result c.count.result low c.min-end.ensures
    (count_from_yields_List c.take_while.result c.count.result c.count.ensures.ran
    (YieldsList-from_take_while _ (λ y. ltb y row) (YieldsList-at c.take_while.ensures.source (YieldsList-from_slice part cc)) c.take_while.ensures.closure c.take_while.ensures.done (λ x b q k. search (rules, tests)))) in
    at.1 c.if-k-near.true

pub returns : goal.returns
returns c =
    let row = c.args.row in
    let ids = c.args.ids.now in
    let near = c.args.near in
    let part = take (c.min-end.result - near) (drop near ids) in
    let low : near ≤ rank_in row ids =
    elim c.else-near-ne0.branch [
      | else-near-ne0-via-then-near-ne0+else-ids-near w ↦ elim w.if-near-ids.branch [
        | then-near-ids v ↦ absurd (let l = ltb-false (length ids) near (sym v.value-is ∙ w.if-ids-near.false) in omega arith)
        | else-near-ids v ↦ reached row ids c.requires near v.if-near-ids.false (leb-false row _ (sym v.value-is ∙ w.if-ids-near.false))
      ]
      | else-near-ne0-via-else-near-ne0 w ↦ omega arith
    ] in
    let at =
    climbed row ids c.requires near c.min-end.result c.count.result low c.min-end.ensures
    (count_from_yields_List c.take_while.result c.count.result c.count.ensures.ran
    (YieldsList-from_take_while _ (λ y. ltb y row) (YieldsList-at c.take_while.ensures.source (YieldsList-from_slice part cc)) c.take_while.ensures.closure c.take_while.ensures.done (λ x b q k. search (rules, tests)))) in
    let k = near + c.count.result in
    part-rank row ids c.requires k c.partition_point-2.result at.0 c.partition_point-2.ensures.bound
    (IsPartitionPoint-from_clause (λ y. ltb y row) (take (length ids - k) (drop k ids)) c.partition_point-2.result c.partition_point-2.ensures.partitioned (part-cut row ids c.requires k (length ids)) (λ a r q k. search rules))
