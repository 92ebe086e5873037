-- The walk of a declared lattice, step by step.
use Rattle.std.proofs.Common.{◌≡◌, ℕ, zero, suc, ◌<◌, ◌≤◌, Bool, true, false, ◌&&◌, List, [], ◌∷◌}
use Rattle.std.proofs.Common.{◌++◌, length, map, position, Option, Some, None, refl, sym, ap, ◌∙◌}
use Rattle.std.proofs.Common.{arith}
use Rattle.std.specs.Prelude.{Result, Ok, Err, nat_le, unwrap_or}
use Rattle.std.specs.List.{All}
use Rattle.std.specs.Str.{bytes_eq}
use Rattle.std.proofs.lemmas.List.Quantifiers.{position-Some}
use Rattle.sv_num.specs.declared.faults.Place.{Place}
use Rattle.sv_num.specs.declared.faults.Fault.{Fault}
use Rattle.sv_num.specs.declared.faults.Fault.TheVariants.{Rule, OutOfMemory}
use Rattle.sv_lattice.specs.Flows.{IsKnown}
use Rattle.sv_ast.specs.Tree.{PlacedName, PairTree, LatticeTree}
use Rattle.sv_ast.specs.Views.{placed_name, pair_tree}
use Rattle.sv_elab_rules.specs.Walks.{WalkStep, Walk, ask, ◌>>=◌}
use Rattle.sv_elab_rules.specs.Rules.{lattice_size}
use Rattle.sv_elab_rules.specs.Lattices.{PointOrder, point_questions, pair_questions, point_names}
use Rattle.sv_elab_rules.specs.Lattices.{numbered_pair, table_of, declared_order, checked_order}
use Rattle.sv_elab_rules.specs.Lattices.{lattice_walk}
use Rattle.sv_elab_rules.proofs.WalkLemmas.{end_after, end_broken}
use Rattle.sv_width.specs.Answers.{IsBreach}
use Rattle.sv_elab.specs.Earliest.{earlier, earliest, names_of, name_steps}
use Rattle.sv_elab.proofs.EarliestLemmas.{end_at, ordered_end, earliest_append}
use Rattle.sv_elab.proofs.NameLemmas.{KnowSame}

-- what breaks one walk breaks another
pub breach_on : {X Y : Type 0} (f : Fault) (d : Result X WalkStep) (e : Result Y WalkStep)
    → ((s : WalkStep) → d ≡ Err s → e ≡ Err s)
    → IsBreach d f → IsBreach e f
breach_on (Rule r) d e on h = on _ h
breach_on OutOfMemory d e on h = tt

-- ---- the steps

abbrev pub count_test : LatticeTree → Bool
count_test t = nat_le 1 (length t.points) && nat_le (length t.points) 32

asked_ok : (b : Bool) (s : WalkStep) → b ≡ true → (ask b s).end ≡ Ok tt
asked_ok b s h = rw h refl

asked_err : (b : Bool) (s : WalkStep) → b ≡ false → (ask b s).end ≡ Err s
asked_err b s h = rw h refl

module _ (t : LatticeTree) where
  rest : Unit {0} → Walk PointOrder
  rest u = name_steps t >>= λ _. checked_order t.place (declared_order t)

  walk_is : lattice_walk (Some t) ≡ (ask (count_test t) (lattice_size t.place) >>= rest)
  unfolding lattice_walk rest
  walk_is = refl

  pub size_end : count_test t ≡ false → (lattice_walk (Some t)).end ≡ Err (lattice_size t.place)
  size_end h =
      ap (λ (w : Walk PointOrder). w.end) walk_is
      ∙ end_broken (ask (count_test t) (lattice_size t.place)) rest (lattice_size t.place)
      (asked_err (count_test t) _ h)

  counted : count_test t ≡ true → (lattice_walk (Some t)).end ≡ (rest tt).end
  counted h =
      ap (λ (w : Walk PointOrder). w.end) walk_is
      ∙ end_after (ask (count_test t) (lattice_size t.place)) rest tt (asked_ok (count_test t) _ h)

  pub names_end : count_test t ≡ true → (s : WalkStep) → (name_steps t).end ≡ Err s →
      (lattice_walk (Some t)).end ≡ Err s
  unfolding rest
  names_end h s e =
      counted h ∙ end_broken (name_steps t) (λ _. checked_order t.place (declared_order t)) s e

  pub order_end : count_test t ≡ true → (name_steps t).end ≡ Ok tt
      → (lattice_walk (Some t)).end ≡ (checked_order t.place (declared_order t)).end
  unfolding rest
  order_end h e =
      counted h ∙ end_after (name_steps t) (λ _. checked_order t.place (declared_order t)) tt e

-- ---- names

pub point_names_are : (ps : List (List ℕ × Place)) →
    map (λ (p : PlacedName). p.name) (map placed_name ps) ≡ names_of ps
point_names_are [] = refl
point_names_are (p ∷ ps) = ap (λ ns. p.0 ∷ ns) (point_names_are ps)

pairs_along : (xs ys : List (List ℕ)) → KnowSame xs ys → (ps : List PairTree) →
    pair_questions xs ps ≡ pair_questions ys ps
pairs_along xs ys same [] = refl
pairs_along xs ys same (p ∷ ps) =
    rw (same p.lower.name, same p.upper.name, pairs_along xs ys same ps) refl

-- where the questions about names end
pub asked_names : (place : Place) (points : List (List ℕ × Place))
    (pairs : List (List ℕ × Place × List ℕ × Place))
    (keys : List (List ℕ)) (w v : Option WalkStep)
    → w ≡ earliest (point_questions [] (map placed_name points)) → KnowSame keys (names_of points)
    → v ≡ earlier w (earliest (pair_questions keys (map pair_tree pairs)))
    → (name_steps (record {
      place = place;
      points = map placed_name points;
      pairs = map pair_tree pairs;
    })).end ≡ end_at v
asked_names place points pairs keys w v w_is known v_is =
    let own = point_questions [] (map placed_name points) in
    let names = map (λ (p : PlacedName). p.name) (map placed_name points) in
    ordered_end (own ++ pair_questions names (map pair_tree pairs))
    ∙ ap end_at (earliest_append own (pair_questions names (map pair_tree pairs))
    ∙ ap (λ (o : Option WalkStep).
    earlier o (earliest (pair_questions names (map pair_tree pairs))))
    (sym w_is)
    ∙ ap (λ ns. earlier w (earliest (pair_questions ns (map pair_tree pairs))))
    (point_names_are points)
    ∙ ap (λ qs. earlier w (earliest qs))
    (sym (pairs_along keys (names_of points) known (map pair_tree pairs)))
    ∙ sym v_is)

-- ---- numbers

position_below : (p : List ℕ → Bool) (keys : List (List ℕ)) → 1 ≤ length keys →
    unwrap_or (position p keys) 0 < length keys
position_below p keys some = by (position p keys) refl
  where
    by : (o : Option ℕ) → position p keys ≡ o → unwrap_or o 0 < length keys
    by None e = omega arith
    by (Some i) e = (position-Some p keys i [] e).0

pub known_pairs : (keys : List (List ℕ)) → 1 ≤ length keys → (ps : List PairTree) →
    All (IsKnown (length keys)) (map (numbered_pair keys) ps)
known_pairs keys some [] k d h = absurd (omega arith)
known_pairs keys some (p ∷ ps) zero d h = (
  position_below (bytes_eq p.lower.name) keys some,
  position_below (bytes_eq p.upper.name)
      keys some,
)
known_pairs keys some (p ∷ ps) (suc k) d h = known_pairs keys some ps k d (omega arith)

pub order_is : (t : LatticeTree) (keys : List (List ℕ)) (ps : List (ℕ × ℕ)) → keys ≡ point_names t
    → ps ≡ map (numbered_pair keys) t.pairs
    → (checked_order t.place (record { points = keys; table = table_of (length keys) ps })).end
    ≡ (checked_order t.place (declared_order t)).end
order_is t keys ps k p =
    ap (λ qs.
    (checked_order t.place (record { points = keys; table = table_of (length keys) qs })).end) p
    ∙ ap (λ ns.
    (checked_order t.place (record {
      points = ns;
      table = table_of (length ns) (map (numbered_pair ns) t.pairs);
    })).end) k
