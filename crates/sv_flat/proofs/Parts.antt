-- Parts of a join or replication, one after the other.
use Rattle.std.proofs.Common.{◌≡◌, ℕ, zero, suc, ◌+◌, ◌*◌, ◌^◌, ◌<◌, List, [], ◌∷◌, length}
use Rattle.std.proofs.Common.{get_or, drop, ap, subst, arith}
use Rattle.std.specs.Prelude.{IsTrue}
use Rattle.std.proofs.lemmas.Nat.{pow-add}
use Rattle.sv_system.proofs.Fronts.{left_more}
use Rattle.sv_flat.specs.declared.expressions.FExpr.{FExpr}
use Rattle.sv_flat.specs.Design.{SignalForm, TypedTrees, more_parts}
use Rattle.sv_flat.specs.Soundness.{well_formed, parts_well_formed}
use Rattle.sv_flat.specs.Values.{value}
use Rattle.sv_flat.specs.Views.{typed_tree, typed_trees, parts_of}
use Rattle.sv_flat.proofs.Depths.{first_of, second_of}

abbrev pub trees : List FExpr → TypedTrees
trees es = parts_of (typed_trees es)

-- the parts from one on are that part and those after it
pub parts_at : (es : List FExpr) (i : ℕ) (e : FExpr) → i < length es → e ≡ get_or es i e
    → trees (drop i es) ≡ more_parts (typed_tree e) (trees (drop (i + 1) es))
parts_at es i e inside is = ap trees (left_more es i e inside is)

-- each part of well formed ones is well formed
pub formed_from : (signals : List SignalForm) (es : List FExpr) (i : ℕ)
    → IsTrue (parts_well_formed signals (trees es))
    → IsTrue (parts_well_formed signals (trees (drop i es)))
formed_from signals es zero h = h
formed_from signals [] (suc i) h = h
formed_from signals (e ∷ es) (suc i) h =
    formed_from signals es i
    (second_of (well_formed signals (typed_tree e)) (parts_well_formed signals (trees es)) h)

pub formed_at : (signals : List SignalForm) (es : List FExpr) (i : ℕ) (e : FExpr) → i < length es
    → e ≡ get_or es i e
    → IsTrue (parts_well_formed signals (trees es)) → IsTrue (well_formed signals (typed_tree e))
formed_at signals es i e inside is h =
    let left = subst (λ z. IsTrue (parts_well_formed signals z)) (parts_at es i e inside is)
    (formed_from signals es i h) in
    first_of (well_formed signals (typed_tree e))
    (parts_well_formed signals (trees (drop (i + 1) es))) left

-- one more part below those so far
pub one_more : (all value one left rest : ℕ) →
    (all * 2 ^ one + value) * 2 ^ left + rest ≡ all * 2 ^ (one + left) + (value * 2 ^ left + rest)
one_more all value one left rest =
    let e : 2 ^ (one + left) ≡ 2 ^ one * 2 ^ left = pow-add 2 one left in rw e (omega arith)
