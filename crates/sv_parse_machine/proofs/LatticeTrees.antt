-- A lattice is what its symbols stand for.
use Rattle.std.proofs.Common.{ℕ, zero, suc, List, [], ◌∷◌, Option, Some, None, inl, inr, refl, sym}
use Rattle.std.proofs.Common.{subst}
use Rattle.std.specs.Prelude.{flat_map}
use Rattle.sv_token.specs.declared.keywords.WordKind.TheVariants as words
use Rattle.sv_token.specs.declared.signs.SignKind.TheVariants as signs
use Rattle.sv_token.specs.Lexemes.{Placed}
use Rattle.sv_ast.specs.Tree.{PlacedName, LatticeTree}
use Rattle.sv_ast.specs.GrammarForms.{Form, ◌⨾◌, each, perhaps, a_word, a_sign, commas}
use Rattle.sv_ast.specs.GrammarExpressions.{Limits}
use Rattle.sv_ast.specs.GrammarModules.{IsPlacedName, LatticeLine, points, pair, IsLatticeLine}
use Rattle.sv_ast.specs.GrammarModules.{points_of, pairs_of, IsLattice}
use Rattle.sv_parse_machine.specs.ModuleTable.{perhaps_lattice_on}
use Rattle.sv_parse_machine.proofs.ExpressionForms.{Next}
use Rattle.sv_parse_machine.proofs.OuterForms.{IsOver, times, some_name, more_names_form}
use Rattle.sv_parse_machine.proofs.OuterForms.{lattice_lines_row, lattice_lines_form}
use Rattle.sv_parse_machine.proofs.OuterForms.{perhaps_lattice_form}
use Rattle.sv_parse_machine.proofs.ListTrees.{Any, Follows, f_later, b_later}

-- ---- names with commas

abbrev LaterName : PlacedName → PlacedName → Form
LaterName before = IsPlacedName

f_name : (a b : PlacedName) (ts rest : List Placed) → Any a → LaterName a b ts rest →
    Follows signs.Semicolon rest → Any b × some_name ts rest
f_name a b ts rest known is follows = (tt, (b.name, (b.place, is)))

b_name : (a : PlacedName) (ts rest : List Placed) → Any a → some_name ts rest →
    (b : PlacedName) × Any b × LaterName a b ts rest
b_name a ts rest known (x, (p, is)) = (record { name = x; place = p }, tt, is)

f_names : (l : Limits) (xs : List PlacedName) (ts rest : List Placed)
    → (commas IsPlacedName xs ⨾ a_sign signs.Semicolon) ts rest
    → (some_name ⨾ more_names_form l signs.Semicolon) ts rest
f_names l [] ts rest (m, never, close) = absurd never
f_names l (x ∷ xs) ts rest (m, (m1, is, others), close) = (
  m1,
  (x.name, (x.place, is)),
  f_later LaterName some_name Any signs.Semicolon f_name x xs m1
      rest tt (m, others, close),
)

abbrev Names : List Placed → List Placed → Type 0
Names ts rest = (xs : List PlacedName) × (commas IsPlacedName xs ⨾ a_sign signs.Semicolon) ts rest

b_names : (l : Limits) (ts rest : List Placed) →
    (some_name ⨾ more_names_form l signs.Semicolon) ts rest → Names ts rest
b_names l ts rest (m1, (x, (p, is)), (k, (m2, others, close))) =
    let a : PlacedName = record { name = x; place = p } in
    let xs = b_later LaterName some_name Any signs.Semicolon b_name a k m1 m2 rest tt others
    close in
    (a ∷ xs.0, (xs.1.0, (m1, is, xs.1.1), xs.1.2))

-- ---- lines

f_line : (l : Limits) (line : LatticeLine) (ts rest : List Placed) → IsLatticeLine line ts rest →
    lattice_lines_row l ts rest
f_line l (points xs) ts rest (m, starts, are) = inl (m, starts, f_names l xs m rest are)
f_line l (pair q) ts rest (m, lower, (m1, flows, (m2, upper, close))) =
    inr (
      m,
      (q.lower.name, (q.lower.place, lower)),
      (m1, flows, (m2, (q.upper.name, (q.upper.place, upper)), close)),
    )

f_lines : (l : Limits) (lines : List LatticeLine) (ts rest : List Placed) →
    (each IsLatticeLine lines ⨾ a_word words.Endlattice) ts rest → lattice_lines_form l ts rest
f_lines l [] ts rest (m, none, final) = (zero, (m, none, final))
f_lines l (line ∷ lines) ts rest (m, (m1, is, others), final) =
    let further = f_lines l lines m1 rest (m, others, final) in
    (suc further.0, (further.1.0, (m1, f_line l line ts m1 is, further.1.1), further.1.2))

abbrev Line : List Placed → List Placed → Type 0
Line ts rest = (line : LatticeLine) × IsLatticeLine line ts rest

b_line : (l : Limits) (ts rest : List Placed) → lattice_lines_row l ts rest → Line ts rest
b_line l ts rest (inl (m, starts, are)) =
    let xs = b_names l m rest are in (points xs.0, (m, starts, xs.1))
b_line l ts rest (inr (m, (x, (p, lower)), (m1, flows, (m2, (y, (q, upper)), close)))) = (
  pair (record {
    lower = record { name = x; place = p };
    upper = record { name = y; place = q };
  }),
  (m, lower, (m1, flows, (m2, upper, close))),
)

abbrev Lines : List Placed → List Placed → Type 0
Lines ts rest =
    (lines : List LatticeLine) × (each IsLatticeLine lines ⨾ a_word words.Endlattice) ts rest

b_lines : (l : Limits) (k : ℕ) (ts m rest : List Placed) → times (lattice_lines_row l) k ts m →
    a_word words.Endlattice m rest → Lines ts rest
b_lines l zero ts m rest none final = ([], (m, none, final))
b_lines l (suc k) ts m rest (m1, is, further) final =
    let line = b_line l ts m1 is in
    let others = b_lines l k m1 m rest further final in
    (line.0 ∷ others.0, (others.1.0, (m1, line.1, others.1.1), others.1.2))

-- ---- lattices

pub f_perhaps_lattice : (l : Limits) (t : Option LatticeTree) (ts rest : List Placed)
    → perhaps IsLattice t ts rest
    → Next (λ x. IsOver (perhaps_lattice_on x)) rest → perhaps_lattice_form l ts rest
unfolding IsLattice
f_perhaps_lattice l None ts rest same next =
    inl (subst (Next (λ x. IsOver (perhaps_lattice_on x))) (sym same) next, same)
f_perhaps_lattice l (Some t) ts rest (lines, xs, qs, (m, starts, are)) next =
    inr (m, (t.place, starts), (rest, f_lines l lines m rest are, refl))

abbrev pub SomeLattice : List Placed → List Placed → Type 0
SomeLattice ts rest = (t : Option LatticeTree) × perhaps IsLattice t ts rest

pub b_perhaps_lattice : (l : Limits) (ts rest : List Placed) → perhaps_lattice_form l ts rest →
    SomeLattice ts rest
unfolding IsLattice
b_perhaps_lattice l ts rest (inl (next, same)) = (None, same)
b_perhaps_lattice l ts rest (inr (m, (p, starts), (m1, (k, (m2, inside, final)), same))) =
    let lines = b_lines l k m m2 m1 inside final in
    subst (SomeLattice ts) same (
      Some (record {
        place = p;
        points = flat_map points_of lines.0;
        pairs = flat_map pairs_of lines.0;
      }),
      (lines.0, refl, refl, (m, starts, lines.1)),
    )
