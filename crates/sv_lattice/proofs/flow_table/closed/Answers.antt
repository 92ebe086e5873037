use Rattle.std.proofs.Common.{Vec, Global, ◌≡◌, ℕ, ◌<◌, List, ◌++◌, ◌∷◌, [], ◌==◌, take, length}
use Rattle.std.proofs.Common.{get_or, sym, ap, subst, ◌∙◌, arith}
use Rattle.std.specs.Int.{bit_at}
use Rattle.std.proofs.lemmas.List.{take_more, get_or_default, with_items_is}
use Rattle.std.proofs.lemmas.List.Elements.{All-get_or}
use Rattle.sv_lattice.specs.Flows.{IsKnown, EachPair}
use Rattle.sv_lattice.specs.Tables.{IsTableOf, IsWithin, flow_test}
use Rattle.sv_lattice.proofs.TableLemmas.{added_table, known_table, Adds}
use Rattle.sv_lattice.proofs.flow_table.closed.Goals.{then-not-has, else-not-has}
use Rattle.sv_lattice.proofs.flow_table.closed.Goals as goal

pub loop-pair-preserved : goal.loop-pair-preserved
loop-pair-preserved c =
    let n : ℕ = c.args.points in
    let i : ℕ = c.loop-pair.pair-index in
    let pairs : List (ℕ × ℕ) = take i c.args.pairs.now in
    let old : List ℕ = c.loop-pair.table.items in
    let here : ℕ × ℕ = get_or c.args.pairs.now i (0, 0) in
    let in_pairs : i < length c.args.pairs.now = omega arith in
    let known : IsKnown n here =
    All-get_or (IsKnown n) c.args.pairs.now i (0, 0) in_pairs c.requires.1 in
    let so_far : IsTableOf n pairs old = c.loop-pair.invariant in
    let from_row : here.0 < length old = omega arith in
    let row : c.index.result.now ≡ get_or old here.0 0 =
    c.index.ensures ∙ get_or_default old here.0 c.index.result.now 0 from_row in
    let tested : c.has.result ≡ flow_test old here.0 here.1 =
    c.has.ensures ∙ ap (λ r. bit_at r here.1 == 1) row in
    subst (λ all. IsTableOf n all c.if-not-has.table.items)
    (sym (take_more c.args.pairs.now i (0, 0) in_pairs))
    (elim c.if-not-has.branch [
      | then-not-has w ↦
          let new : List ℕ = w.add_flow.new.table in
          let read : w.deref_mut.result.now ≡ old = w.deref_mut.ensures.value in
          let size : length new ≡ n = omega (arith, ap length read) in
          let adds : EachPair n (Adds here.0 here.1 old new) =
          subst (λ m. EachPair m (Adds here.0 here.1 old new)) so_far.size
          (subst (λ t. EachPair (length t) (Adds here.0 here.1 t new)) read
          w.add_flow.ensures.exact) in
          let keeps : IsWithin (length old) old → IsWithin (length old) new =
          subst (λ t. IsWithin (length t) t → IsWithin (length t) new) read
          w.add_flow.ensures.within in
          let within : IsWithin n new =
          subst (λ m. IsWithin m new) so_far.size
          (keeps (subst (λ m. IsWithin m old) (sym so_far.size) so_far.within)) in
          let items : c.if-not-has.table.items ≡ new =
          ap (λ (v : Vec ℕ Global). v.items) w.table-is
          ∙ with_items_is c.loop-pair.table new (omega arith) in
          subst (IsTableOf n (pairs ++ here ∷ [])) (sym items)
          (added_table n pairs here.0 here.1 old known.0 known.1 so_far new size within adds)
      | else-not-has w ↦
          subst (λ v. IsTableOf n (pairs ++ here ∷ []) v.items) (sym w.table-is)
          (known_table n pairs here.0 here.1 old known.0 known.1 so_far (sym tested
          ∙ w.if-not-has.false))
    ])
