-- What a walk over targets found, and what each target's bits become.
use Rattle.std.proofs.Common.{◌≡◌, ℕ, ◌%◌, ◌^◌, ◌<◌, ◌≤◌, List, [], ◌∷◌, ap, ◌∙◌, arith}
use Rattle.std.specs.Prelude.{IsTrue, ℤ, pos, negsuc}
use Rattle.std.proofs.lemmas.Bool.{ltb-true}
use Rattle.sv_num.specs.declared.faults.Place.{Place}
use Rattle.sv_num.specs.Parts.{span_of, replaced_bits}
use Rattle.sv_ast.specs.Scopes.{Scope, width_of}
use Rattle.sv_ast.specs.Tree.{Selection, whole, bit_at, part_from, TargetTree}
use Rattle.sv_ast.specs.Values.{natural, length_of, joined_length, whole_number}
use Rattle.sv_ast.specs.Instances.{is_signal}
use Rattle.sv_ast.specs.Runs.{selected, replaced, with_bits}
use Rattle.sv_elab_rules.specs.Walks.{ask, each}
use Rattle.sv_elab_rules.specs.Names.{Names}
use Rattle.sv_elab_rules.specs.Rules.{unknown_name}
use Rattle.sv_elab_rules.specs.ExpressionSteps.{is_below, constant_walk}
use Rattle.sv_elab_rules.specs.Targets.{highest, lowest, selection_steps, target_steps, targets_steps}
use Rattle.sv_elab_rules.proofs.WalkLemmas.{parts_done, asked_true}
use Rattle.sv_width.proofs.Sound.{Passes}
use Rattle.sv_width.proofs.Lengths.{part_inside}
use Rattle.sv_elab_laws.proofs.PieceValues.{whole_replaced, part_replaced}

-- ---- what the walk found

-- a selection lies inside a signal of so many bits
abbrev pub LiesInside : Scope → (width : ℕ) → Selection → Type 0
LiesInside scope width whole = Unit {0}
LiesInside scope width (bit_at i) = natural (whole_number scope i) < width
LiesInside scope width (part_from h l) =
    (natural (whole_number scope h) < width)
    × (natural (whole_number scope l) ≤ natural (whole_number scope h))

abbrev pub IsTarget : Scope → TargetTree → Type 0
IsTarget scope t =
    IsTrue (is_signal (scope t.name)) × LiesInside scope (width_of (scope t.name)) t.selection

abbrev pub AreTargets : Scope → List TargetTree → Type 0
AreTargets scope [] = Unit {0}
AreTargets scope (t ∷ ts) = IsTarget scope t × AreTargets scope ts

below_inside : (limit : ℕ) (i : ℤ) → IsTrue (is_below limit i) → natural i < limit
below_inside limit (pos n) h = ltb-true n limit h
below_inside limit (negsuc n) h = absurd (cc h)

selection_inside : (names : Names) (n : List ℕ) (p : Place) (s : Selection)
    → Passes (selection_steps names n p s)
    → LiesInside names.scope (width_of (names.scope n)) s
unfolding selection_steps
selection_inside names n p whole h = tt
selection_inside names n p (bit_at i) h =
    let first = parts_done (constant_walk names i) _ tt h in
    below_inside (width_of (names.scope n)) (whole_number names.scope i) (asked_true _ _ first.2)
selection_inside names n p (part_from high low) h =
    let first = parts_done (constant_walk names high) _ tt h in
    let second = parts_done (constant_walk names low) _ tt first.2 in
    part_inside (width_of (names.scope n)) (whole_number names.scope high)
    (whole_number names.scope low) (asked_true _ _ second.2)

target_found : (names : Names) (t : TargetTree) → Passes (target_steps names t) →
    IsTarget names.scope t
unfolding target_steps
target_found names t h =
    let first = parts_done (ask (is_signal (names.scope t.name)) (unknown_name t.place t.name))
    _ tt h in
    (asked_true _ _ first.1, selection_inside names t.name t.place t.selection first.2)

each_found : (names : Names) (ts : List TargetTree) → Passes (each (target_steps names) ts) →
    AreTargets names.scope ts
unfolding each
each_found names [] h = tt
each_found names (t ∷ ts) h =
    let first = parts_done (target_steps names t) _ tt h in
    (target_found names t first.1, each_found names ts first.2)

-- each target is a signal, and what it selects lies inside
pub targets_found : (names : Names) (ts : List TargetTree) (place : Place)
    → Passes (targets_steps names ts place)
    → AreTargets names.scope ts
unfolding targets_steps
targets_found names ts place h =
    let first = parts_done (each (target_steps names) ts) _ tt h in
    each_found names ts first.1

-- ---- what a signal's bits become

-- the selected bits, from the lowest to the highest
pub selection_ordered : (scope : Scope) (w : ℕ) (s : Selection) → 1 ≤ w → LiesInside scope w s
    → (lowest scope s ≤ highest scope w s) × (highest scope w s < w)
selection_ordered scope w whole some inside = (omega arith, omega arith)
selection_ordered scope w (bit_at i) some inside = (omega arith, inside)
selection_ordered scope w (part_from h l) some inside = (inside.1, inside.0)

one_bit : (k : ℕ) → span_of k k ≡ 1
one_bit k = omega arith

-- the bits by their numbers are those that the source selects
pub selection_replaced : (scope : Scope) (n : List ℕ) (p : Place) (s : Selection) (old x : ℕ)
    → 1 ≤ width_of (scope n) → LiesInside scope (width_of (scope n)) s
    → old < 2 ^ width_of (scope n)
    → replaced_bits (width_of (scope n)) (highest scope (width_of (scope n)) s)
    (lowest scope s) old x
    ≡ replaced scope (length_of scope (selected n p s)) s old
    (x % 2 ^ length_of scope (selected n p s))
unfolding length_of joined_length
selection_replaced scope n p whole old x some inside fits =
    whole_replaced (width_of (scope n)) old x some
selection_replaced scope n p (bit_at i) old x some inside fits =
    let k : ℕ = natural (whole_number scope i) in
    part_replaced (width_of (scope n)) k k old x (omega arith) fits
    ∙ ap (λ count. with_bits k count old (x % 2 ^ count)) (one_bit k)
selection_replaced scope n p (part_from h l) old x some inside fits =
    part_replaced (width_of (scope n)) (natural (whole_number scope h))
    (natural (whole_number scope l)) old x inside.1 fits
