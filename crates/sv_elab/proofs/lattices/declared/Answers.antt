use Rattle.std.proofs.Common.{◌≡◌, ℕ, ◌≤◌, Bool, true, false, List, [], length, map, Some, sym, ap}
use Rattle.std.proofs.Common.{◌∙◌, subst}
use Rattle.std.specs.Prelude.{nat_le, ◌&&◌}
use Rattle.std.specs.List.{All}
use Rattle.std.proofs.lemmas.Bool.{and_parts, leb-true}
use Rattle.std.proofs.lemmas.List.{length-map}
use Rattle.std.proofs.lemmas.Result.{err_from_is_err_and}
use Rattle.sv_num.specs.declared.faults.Place.{Place}
use Rattle.sv_lattice.specs.Flows.{IsKnown}
use Rattle.sv_ast.specs.declared.modules.LatticeText.{LatticeText}
use Rattle.sv_ast.specs.Views.{lattice_tree, pair_tree, placed_name}
use Rattle.sv_elab_rules.specs.Lattices.{lattice_walk, numbered_pair, checked_order, table_of}
use Rattle.sv_width.proofs.Breaches.{breach_of, ok_weaker, err_weaker}
use Rattle.sv_elab.specs.Earliest.{name_steps}
use Rattle.sv_elab.proofs.DeclaredLattices.{breach_on, count_test, size_end, names_end, order_end}
use Rattle.sv_elab.proofs.DeclaredLattices.{known_pairs, order_is}
use Rattle.sv_elab.proofs.lattices.declared.Goals as goal
use Rattle.sv_elab.proofs.lattices.declared.Goals.{In_ok-pairs}

-- the test of the number of points
counted : (text : LatticeText) (ps : List (List ℕ × Place)) (b : Bool) → ps ≡ text.points.items
    → b ≡ (nat_le 1 (length ps) && nat_le (length ps) 32) → count_test (lattice_tree text) ≡ b
counted text ps b is test =
    ap (λ m. nat_le 1 m && nat_le m 32) (length-map text.points.items placed_name
    ∙ ap length (sym is)) ∙ sym test

-- where there are points, there are names
some_names : (text : LatticeText) (keys : List (List ℕ)) → count_test (lattice_tree text) ≡ true
    → keys ≡ map (λ p. p.name) (lattice_tree text).points → 1 ≤ length keys
some_names text keys test are =
    let n = length (lattice_tree text).points in
    let parts : (nat_le 1 n ≡ true) × (nat_le n 32 ≡ true) =
    and_parts (nat_le 1 n) (nat_le n 32) test in
    subst (λ m. 1 ≤ m) (sym (ap length are ∙ length-map (lattice_tree text).points (λ p. p.name)))
    (leb-true 1 n parts.0)

pub returns-then-not-is_count-clause-broken : goal.returns-then-not-is_count-clause-broken
returns-then-not-is_count-clause-broken c =
    breach_of c.broken.result 301 c.args.text.now.place c.new.result.items [] c.broken.ensures
    c.new.ensures.items
    (lattice_walk (Some (lattice_tree c.args.text.now))).end
    (size_end (lattice_tree c.args.text.now)
    (counted c.args.text.now c.deref.result.now false c.deref.ensures.value
    c.if-not-is_count.ensures))

pub returns-in_err-names-clause-broken : goal.returns-in_err-names-clause-broken
returns-in_err-names-clause-broken c =
    let t = lattice_tree c.args.text.now in
    let p = err_from_is_err_and c.from_residual.result c.from_residual.ensures.1 in
    rw (p.1, p.2)
    (breach_on c.in_err-names.field-0.0 (name_steps t).end (lattice_walk (Some t)).end
    (names_end t (counted c.args.text.now c.deref.result.now true c.deref.ensures.value
    c.if-not-is_count.ensures)) c.in_err-names.ensures.broken)

pub ordered-requires-clause-known : goal.ordered-requires-clause-known
ordered-requires-clause-known c =
    subst (λ ps. All (IsKnown (length c.in_ok-names.names.keys)) ps)
    (sym (c.deref-3.ensures.value ∙ c.in_ok-pairs.ensures))
    (known_pairs c.in_ok-names.names.keys
    (some_names c.args.text.now c.in_ok-names.names.keys
    (counted c.args.text.now c.deref.result.now true c.deref.ensures.value
    c.if-not-is_count.ensures) c.in_ok-names.ensures.names)
    (map pair_tree c.deref-2.result.now))

-- the walk goes on to the order of the points, by the pairs that the code has
checked : (c : In_ok-pairs) (ps : List (ℕ × ℕ))
    → ps ≡ map (numbered_pair c.in_ok-names.names.keys) (map pair_tree c.deref-2.result.now)
    → (lattice_walk (Some (lattice_tree c.args.text.now))).end
    ≡ (checked_order c.args.text.now.place (record {
      points = c.in_ok-names.names.keys;
      table = table_of (length c.in_ok-names.names.keys) ps;
    })).end
checked c ps listed =
    let t = lattice_tree c.args.text.now in
    let test = counted c.args.text.now c.deref.result.now true c.deref.ensures.value
    c.if-not-is_count.ensures in
    let pairs = listed
    ∙ ap (λ ps. map (numbered_pair c.in_ok-names.names.keys) (map pair_tree ps))
    c.deref-2.ensures.value in
    order_end t test c.in_ok-names.ensures.asked
    ∙ sym (order_is t c.in_ok-names.names.keys ps c.in_ok-names.ensures.names pairs)

pub returns-clause-found : goal.returns-clause-found
returns-clause-found c =
    let same = checked (goal.at.returns-clause-found c).In_ok-pairs c.deref-3.result.now
    (c.deref-3.ensures.value ∙ c.in_ok-pairs.ensures) in
    ok_weaker c.ordered.result _ _ (λ p h. same ∙ h) c.ordered.ensures.found

pub returns-clause-broken : goal.returns-clause-broken
returns-clause-broken c =
    let same = checked (goal.at.returns-clause-broken c).In_ok-pairs c.deref-3.result.now
    (c.deref-3.ensures.value ∙ c.in_ok-pairs.ensures) in
    err_weaker c.ordered.result _ _ (λ f h. breach_on f _ _ (λ s e. same ∙ e) h)
    c.ordered.ensures.broken
