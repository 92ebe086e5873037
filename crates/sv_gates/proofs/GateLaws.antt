-- Each gate's clauses hold exactly where its variable has the gate's value.
use Rattle.std.proofs.Common.{IsTrue}
use Rattle.std.proofs.Common.{◌≡◌, ◌↔◌, ℕ, suc, ◌<◌, ◌≤◌, Bool, true, false, not, ◌||◌, ◌&&◌, ℤ}
use Rattle.std.proofs.Common.{pos, neg_ℤ, unsigned_abs, List, [], ◌∷◌, refl, sym, ap, ◌∙◌, subst, arith}
use Rattle.std.proofs.Common.{if◌then◌else◌, ⊎_elim}
use Rattle.std.specs.Bool.{beq}
use Rattle.std.specs.Cmp.{booleans_Decides}
use Rattle.std.proofs.lemmas.Bool.{and_parts, and_from, cases_eq}
use Rattle.sv_clause.specs.Literals.{literal_true}
use Rattle.sv_clause.proofs.Merging.{unsigned_abs-neg}
use Rattle.sv_gates.specs.Formulas.{Formula, meets, IsLiteral, IsClosed}
use Rattle.sv_gates.specs.Gates.{with_gate, and_clauses, and_gate, or_gate, xor_clauses, xor_gate}
use Rattle.sv_gates.specs.Gates.{mux_clauses, mux_gate, with_unit, GateHas}
use Rattle.sv_gates.specs.Extending.{AgreeUpTo, Begins, Makes}
use Rattle.sv_gates.proofs.NormalLaws.{AllAreLiterals, with_clauses_within}
use Rattle.sv_gates.proofs.NormalLaws.{with_clause_within}
use Rattle.sv_gates.proofs.Valuations.{meets-with_clause, with_clause_front}
use Rattle.sv_gates.proofs.Valuations.{negation_true, meets-with_clauses, with_clauses_front}
use Rattle.sv_gates.proofs.Valuations.{literal_agrees, meets_agrees}
use Rattle.sv_gates.proofs.ExtendingLaws.{front_from, within_more, changed_at, changed_at-here}
use Rattle.sv_gates.proofs.ExtendingLaws.{changed_at-below, makes_as}

or_none : (b : Bool) → (b || false) ≡ b
or_none true = refl
or_none false = refl

-- the truth tables: g, a, b are the values of the gate and its literals, n those of their negations
and_table : (g a b : Bool) → ((not g || (a || false)) && ((not g || (b || false))
    && ((g || (not a || (not b || false))) && true))) ≡ beq g (a && b)
and_table true true true = refl
and_table true true false = refl
and_table true false b = refl
and_table false true true = refl
and_table false true false = refl
and_table false false b = refl

xor_table : (g a b : Bool) → ((not g || (a || (b || false))) && ((not g || (not a || (not b
    || false))) && ((g || (not a || (b || false))) && ((g || (a || (not b || false))) && true))))
    ≡ beq g (not (beq a b))
xor_table true true true = refl
xor_table true true false = refl
xor_table true false true = refl
xor_table true false false = refl
xor_table false true true = refl
xor_table false true false = refl
xor_table false false true = refl
xor_table false false false = refl

mux_table : (g c a b : Bool) → ((not g || (not c || (a || false))) && ((not g || (c || (b
    || false))) && ((g || (not c || (not a || false))) && ((g || (c || (not b || false))) && true))))
    ≡ beq g (if c then a else b)
mux_table true true true b = refl
mux_table true true false b = refl
mux_table true false a true = refl
mux_table true false a false = refl
mux_table false true true b = refl
mux_table false true false b = refl
mux_table false false a true = refl
mux_table false false a false = refl

and_says : (values : ℕ → Bool) (n : ℕ) (a b : ℤ) → 0 < unsigned_abs a → 0 < unsigned_abs b →
    meets values (and_clauses a b (pos (suc n)))
    ≡ beq (values (suc n)) (literal_true values a && literal_true values b)
and_says values n a b some_a some_b =
    rw (negation_true values a some_a, negation_true values b some_b)
    (and_table (values (suc n)) (literal_true values a) (literal_true values b))

xor_says : (values : ℕ → Bool) (n : ℕ) (a b : ℤ) → 0 < unsigned_abs a → 0 < unsigned_abs b →
    meets values (xor_clauses a b (pos (suc n)))
    ≡ beq (values (suc n)) (not (beq (literal_true values a) (literal_true values b)))
xor_says values n a b some_a some_b =
    rw (negation_true values a some_a, negation_true values b some_b)
    (xor_table (values (suc n)) (literal_true values a) (literal_true values b))

mux_says : (values : ℕ → Bool) (n : ℕ) (c a b : ℤ) → 0 < unsigned_abs c → 0 < unsigned_abs a →
    0 < unsigned_abs b → meets values (mux_clauses c a b (pos (suc n)))
    ≡ beq (values (suc n))
    (if literal_true values c then literal_true values a else literal_true values b)
mux_says values n c a b some_c some_a some_b =
    rw (negation_true values c some_c, negation_true values a some_a, negation_true values b some_b)
    (mux_table (values (suc n)) (literal_true values c) (literal_true values a) (literal_true values
    b))

same_from_beq : (a b : Bool) → beq a b ≡ true → a ≡ b
same_from_beq a b e = (booleans_Decides a b).0 e

beq-same : (a b : Bool) → a ≡ b → beq a b ≡ true
beq-same a b e = (booleans_Decides a b).1 e

-- a literal is one of more variables too
pub literal_more : (m n : ℕ) (l : ℤ) → m ≤ n → IsLiteral m l → IsLiteral n l
literal_more m n l h is = (is.0, omega (arith, h, is.1))

-- so is the negation
pub literal_negated : (n : ℕ) (l : ℤ) → IsLiteral n l → IsLiteral n (neg_ℤ l)
literal_negated n l is = (
  subst (λ z. 0 < z) (sym (unsigned_abs-neg l)) is.0,
  subst (λ z. z ≤ n) (sym (unsigned_abs-neg l)) is.1,
)

pub next_literal : (n : ℕ) → IsLiteral (suc n) (pos (suc n))
next_literal n = (omega arith, omega arith)

-- the variable that comes next, its negation, and two literals with theirs
gate_literals : (n : ℕ) (a b : ℤ) → IsLiteral n a → IsLiteral n b →
    IsLiteral (suc n) (pos (suc n)) × IsLiteral (suc n) (neg_ℤ (pos (suc n)))
    × IsLiteral (suc n) a × IsLiteral (suc n) (neg_ℤ a)
    × IsLiteral (suc n) b × IsLiteral (suc n) (neg_ℤ b)
gate_literals n a b is_a is_b =
    let g = next_literal n in
    let x = literal_more n (suc n) a (omega arith) is_a in
    let y = literal_more n (suc n) b (omega arith) is_b in (
      g,
      literal_negated (suc n) (pos (suc n)) g,
      x,
      literal_negated (suc n) a x,
      y,
      literal_negated (suc n) b y,
    )

pub and_literals : (n : ℕ) (a b : ℤ) → IsLiteral n a → IsLiteral n b →
    AllAreLiterals (suc n) (and_clauses a b (pos (suc n)))
and_literals n a b is_a is_b =
    let (g, not_g, x, not_x, y, not_y) = gate_literals n a b is_a is_b in
    ((not_g, (x, tt)), ((not_g, (y, tt)), ((g, (not_x, (not_y, tt))), tt)))

pub xor_literals : (n : ℕ) (a b : ℤ) → IsLiteral n a → IsLiteral n b →
    AllAreLiterals (suc n) (xor_clauses a b (pos (suc n)))
xor_literals n a b is_a is_b =
    let (g, not_g, x, not_x, y, not_y) = gate_literals n a b is_a is_b in (
      (not_g, (x, (y, tt))),
      ((not_g, (not_x, (not_y, tt))), ((g, (not_x, (y, tt))), ((g, (x, (not_y, tt))), tt))),
    )

pub mux_literals : (n : ℕ) (c a b : ℤ) → IsLiteral n c → IsLiteral n a → IsLiteral n b →
    AllAreLiterals (suc n) (mux_clauses c a b (pos (suc n)))
mux_literals n c a b is_c is_a is_b =
    let (g, not_g, x, not_x, y, not_y) = gate_literals n a b is_a is_b in
    let z = literal_more n (suc n) c (omega arith) is_c in
    let not_z = literal_negated (suc n) c z in (
      (not_g, (not_z, (x, tt))),
      ((not_g, (z, (y, tt))), ((g, (not_z, (not_x, tt))), ((g, (z, (not_y, tt))), tt))),
    )

-- from what the raw clauses say to what the gate has
gate_has : (raws : ℤ → List (List ℤ)) (old : Formula) (value : (ℕ → Bool) → Bool) →
    AllAreLiterals (suc old.variables) (raws (pos (suc old.variables))) →
    ((values : ℕ → Bool) → meets values (raws (pos (suc old.variables)))
    ≡ beq (values (suc old.variables)) (value values)) →
    GateHas old (with_gate raws old) value
gate_has raws old value all says values =
    let split = meets-with_clauses (suc old.variables) values (raws (pos (suc old.variables)))
    old.clauses all
    ∙ ap (λ z. meets values old.clauses && z) (says values) in (
      λ e.
          let parts = and_parts (meets values old.clauses)
          (beq (values (suc old.variables)) (value values)) (sym split ∙ e) in
          (parts.0, same_from_beq (values (suc old.variables)) (value values) parts.1),
      λ p.
          split ∙ and_from (meets values old.clauses)
          (beq (values (suc old.variables)) (value values)) p.0
          (beq-same (values (suc old.variables)) (value values) p.1),
    )

pub gate_begins : (raws : ℤ → List (List ℤ)) (old : Formula) → Begins old (with_gate raws old).0
gate_begins raws old =
    let front = with_clauses_front (raws (pos (suc old.variables))) old.clauses in
    record {
      grows = omega arith;
      front = front_from old.clauses (with_gate raws old).0.clauses front.0 front.1;
    }

-- a value that hangs on the first variables alone
abbrev IsLocal : ℕ → ((ℕ → Bool) → Bool) → Type 0
IsLocal variables value =
    (one other : ℕ → Bool) → AgreeUpTo variables one other → value one ≡ value other

-- a gate that has a value of its literals extends the formula by it
gate_makes : (raws : ℤ → List (List ℤ)) (old : Formula) (value : (ℕ → Bool) → Bool) →
    IsClosed old → AllAreLiterals (suc old.variables) (raws (pos (suc old.variables))) →
    IsLocal old.variables value → GateHas old (with_gate raws old) value →
    Makes old (with_gate raws old) IsLiteral (λ values g. literal_true values g ≡ value values)
gate_makes raws old value closed all local has = record {
  extends = record {
    begins = gate_begins raws old;
    closed = with_clauses_within (suc old.variables) (raws (pos (suc old.variables))) old.clauses
        all (within_more old.variables (suc old.variables) old.clauses (omega arith) closed);
    onward = λ values e.
        let more = changed_at (suc old.variables) (value values) values in
        let agree = changed_at-below old.variables (value values) values in (
          more,
          agree,
          (has more).1 (
            sym (meets_agrees old.variables values more old.clauses agree closed) ∙ e,
            changed_at-here (suc old.variables) (value values) values
                ∙ local values more agree,
          ),
        );
    unique = λ one other e f agree n small.
        ⊎_elim (λ last. subst (λ z. one z ≡ other z) (sym last)
        (((has one).0 e).1 ∙ local one other agree ∙ sym ((has other).0 f).1))
        (λ earlier. agree n (omega (arith, earlier, small)))
        (cases_eq n (suc old.variables));
  };
  within = next_literal old.variables;
  says = λ values e. ((has values).0 e).1;
}

pub and_has : (a b : ℤ) (old : Formula) → IsLiteral old.variables a → IsLiteral old.variables b →
    GateHas old (and_gate a b old)
    (λ values. literal_true values a && literal_true values b)
and_has a b old is_a is_b =
    gate_has (and_clauses a b) old (λ values. literal_true values a && literal_true values b)
    (and_literals old.variables a b is_a is_b) (λ values.
    and_says values old.variables a b is_a.0 is_b.0)

pub xor_has : (a b : ℤ) (old : Formula) → IsLiteral old.variables a → IsLiteral old.variables b →
    GateHas old (xor_gate a b old)
    (λ values. not (beq (literal_true values a) (literal_true values b)))
xor_has a b old is_a is_b =
    gate_has (xor_clauses a b) old
    (λ values. not (beq (literal_true values a) (literal_true values b)))
    (xor_literals old.variables a b is_a is_b) (λ values.
    xor_says values old.variables a b is_a.0 is_b.0)

pub mux_has : (c a b : ℤ) (old : Formula) → IsLiteral old.variables c →
    IsLiteral old.variables a → IsLiteral old.variables b → GateHas old (mux_gate c a b old)
    (λ values.
    if literal_true values c then literal_true values a else literal_true values b)
mux_has c a b old is_c is_a is_b =
    gate_has (mux_clauses c a b) old
    (λ values. if literal_true values c then literal_true values a else literal_true values b)
    (mux_literals old.variables c a b is_c is_a is_b) (λ values.
    mux_says values old.variables c a b is_c.0 is_a.0 is_b.0)

-- AND, XOR, MUX and OR as pieces of encoding
pub and_makes : (a b : ℤ) (old : Formula) → IsClosed old → IsLiteral old.variables a →
    IsLiteral old.variables b → Makes old (and_gate a b old) IsLiteral
    (λ values g. literal_true values g ≡ (literal_true values a && literal_true values b))
and_makes a b old closed is_a is_b =
    gate_makes (and_clauses a b) old (λ values. literal_true values a && literal_true values b)
    closed (and_literals old.variables a b is_a is_b)
    (λ one other agree. ap (λ z. z && literal_true one b)
    (literal_agrees old.variables one other a agree is_a)
    ∙ ap (λ z. literal_true other a && z) (literal_agrees old.variables one other b agree is_b))
    (and_has a b old is_a is_b)

pub xor_makes : (a b : ℤ) (old : Formula) → IsClosed old → IsLiteral old.variables a →
    IsLiteral old.variables b → Makes old (xor_gate a b old) IsLiteral (λ values g.
    literal_true values g ≡ not (beq (literal_true values a) (literal_true values b)))
xor_makes a b old closed is_a is_b =
    gate_makes (xor_clauses a b) old
    (λ values. not (beq (literal_true values a) (literal_true values b)))
    closed (xor_literals old.variables a b is_a is_b)
    (λ one other agree. ap (λ z. not (beq z (literal_true one b)))
    (literal_agrees old.variables one other a agree is_a)
    ∙ ap (λ z. not (beq (literal_true other a) z))
    (literal_agrees old.variables one other b agree is_b))
    (xor_has a b old is_a is_b)

pub mux_makes : (c a b : ℤ) (old : Formula) → IsClosed old → IsLiteral old.variables c →
    IsLiteral old.variables a → IsLiteral old.variables b →
    Makes old (mux_gate c a b old) IsLiteral (λ values g. literal_true values g
    ≡ (if literal_true values c then literal_true values a else literal_true values b))
mux_makes c a b old closed is_c is_a is_b =
    gate_makes (mux_clauses c a b) old
    (λ values. if literal_true values c then literal_true values a else literal_true values b)
    closed (mux_literals old.variables c a b is_c is_a is_b)
    (λ one other agree. ap (λ z. if z then literal_true one a else literal_true one b)
    (literal_agrees old.variables one other c agree is_c)
    ∙ ap (λ z. if literal_true other c then z else literal_true one b)
    (literal_agrees old.variables one other a agree is_a)
    ∙ ap (λ z. if literal_true other c then literal_true other a else z)
    (literal_agrees old.variables one other b agree is_b))
    (mux_has c a b old is_c is_a is_b)

not_both : (a b : Bool) → not (not a && not b) ≡ (a || b)
not_both true b = refl
not_both false true = refl
not_both false false = refl

neither : (a b : Bool) → not (a || b) ≡ (not a && not b)
neither true b = refl
neither false b = refl

not_not : (g : Bool) → g ≡ not (not g)
not_not true = refl
not_not false = refl

or_from_and : (values : ℕ → Bool) (n : ℕ) (a b : ℤ) → 0 < unsigned_abs a → 0 < unsigned_abs b →
    (values (suc n) ≡ (literal_true values (neg_ℤ a) && literal_true values (neg_ℤ b)))
    ↔ (literal_true values (neg_ℤ (pos (suc n)))
    ≡ (literal_true values a || literal_true values b))
or_from_and values n a b some_a some_b =
    rw (negation_true values a some_a, negation_true values b some_b) (
      (λ e. ap not e ∙ not_both (literal_true values a) (literal_true values b)),
      (λ e. not_not (values (suc n)) ∙ ap not e
          ∙ neither (literal_true values a) (literal_true values b)),
    )

pub or_has : (a b : ℤ) (old : Formula) → IsLiteral old.variables a → IsLiteral old.variables b →
    GateHas old (or_gate a b old)
    (λ values. literal_true values a || literal_true values b)
or_has a b old is_a is_b values =
    let both = and_has (neg_ℤ a) (neg_ℤ b) old (literal_negated old.variables a is_a)
    (literal_negated old.variables b is_b) values in
    let turn = or_from_and values old.variables a b is_a.0 is_b.0 in (
      λ e. let p = both.0 e in (p.0, turn.0 p.1),
      λ p. both.1 (p.0, turn.1 p.1),
    )

pub or_makes : (a b : ℤ) (old : Formula) → IsClosed old → IsLiteral old.variables a →
    IsLiteral old.variables b → Makes old (or_gate a b old) IsLiteral
    (λ values g. literal_true values g ≡ (literal_true values a || literal_true values b))
or_makes a b old closed is_a is_b =
    makes_as old (and_gate (neg_ℤ a) (neg_ℤ b) old) (neg_ℤ (pos (suc old.variables))) IsLiteral
    IsLiteral
    (λ values g. literal_true values g
    ≡ (literal_true values (neg_ℤ a) && literal_true values (neg_ℤ b)))
    (λ values g. literal_true values g ≡ (literal_true values a || literal_true values b))
    (and_makes (neg_ℤ a) (neg_ℤ b) old closed (literal_negated old.variables a is_a)
    (literal_negated old.variables b is_b))
    (λ is. literal_negated (suc old.variables) (pos (suc old.variables)) is)
    (λ values e. (or_from_and values old.variables a b is_a.0 is_b.0).0 e)

-- values meet a formula with a unit where they meet the formula and make the literal true
pub unit_says : (values : ℕ → Bool) (a : ℤ) (old : Formula) → IsLiteral old.variables a →
    meets values (with_unit a old).clauses
    ≡ (meets values old.clauses && literal_true values a)
unit_says values a old is_a =
    meets-with_clause old.variables values (a ∷ []) old.clauses (is_a, tt)
    ∙ ap (λ z. meets values old.clauses && z) (or_none (literal_true values a))

pub unit_begins : (a : ℤ) (old : Formula) → Begins old (with_unit a old)
unit_begins a old =
    let front = with_clause_front (a ∷ []) old.clauses in
    record {
      grows = omega arith;
      front = front_from old.clauses (with_unit a old).clauses front.0 front.1;
    }

pub unit_closed : (a : ℤ) (old : Formula) → IsClosed old → IsLiteral old.variables a →
    IsClosed (with_unit a old)
unit_closed a old closed is_a =
    with_clause_within old.variables (a ∷ []) old.clauses (is_a, tt) closed

pub unit_has : (a : ℤ) (old : Formula) (values : ℕ → Bool) → IsLiteral old.variables a →
    IsTrue (meets values (with_unit a old).clauses)
    ↔ (IsTrue (meets values old.clauses) × IsTrue (literal_true values a))
unit_has a old values is_a =
    let says = unit_says values a old is_a in (
      λ e. and_parts (meets values old.clauses) (literal_true values a) (sym says ∙ e),
      λ p. says ∙ and_from (meets values old.clauses) (literal_true values a) p.0 p.1,
    )
