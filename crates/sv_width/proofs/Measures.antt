-- The steps of the first walk, one operator at a time.
use Rattle.std.proofs.Common.{◌≡◌, ℕ, ◌*◌, max, Bool, true, false, List, refl, sym}
use Rattle.std.proofs.Common.{ap, ◌∙◌}
use Rattle.std.specs.Prelude.{not, ◌&&◌, ◌||◌, nat_le, if◌then◌else◌, Option, Some, None, IsTrue, ℤ}
use Rattle.std.specs.Prelude.{Result, Ok, Err}
use Rattle.sv_num.specs.declared.faults.Place.{Place}
use Rattle.sv_num.specs.declared.faults.Fault.{Fault}
use Rattle.sv_num.specs.declared.faults.Fault.TheVariants.{Rule, OutOfMemory}
use Rattle.sv_num.specs.declared.operators.BinOp.{BinOp}
use Rattle.sv_num.specs.declared.operators.UnOp.{UnOp}
use Rattle.sv_num.specs.UnaryValues.{gives_one_bit}
use Rattle.sv_num.specs.BinaryValues.{class_of, is_division}
use Rattle.sv_ast.specs.Scopes.{Binding, parameter, signal, width_of}
use Rattle.sv_ast.specs.Tree.{ExpressionTree, ExpressionTrees, literal, named, bit_of, part_of}
use Rattle.sv_ast.specs.Tree.{unary, binary, choice, join, replication, no_expressions}
use Rattle.sv_ast.specs.Tree.{more_expressions}
use Rattle.sv_ast.specs.Values.{natural, binary_length, binary_signed, length_of, joined_length}
use Rattle.sv_ast.specs.Values.{signed_of, whole_number}
use Rattle.sv_num.specs.Parts.{span_of}
use Rattle.sv_ast.specs.Instances.{is_signal}
use Rattle.sv_ast.specs.GrammarModules.{place_of}
use Rattle.sv_elab_rules.specs.Walks.{WalkStep, Walk, Steps, done, ask, then_walk, ◌>>=◌}
use Rattle.sv_elab_rules.specs.Names.{Names, is_parameter, means_signal}
use Rattle.sv_elab_rules.specs.Rules.{unknown_name, not_constant, bad_select}
use Rattle.sv_elab_rules.specs.TypedExpressions.{names_signal, some_names_signal}
use Rattle.sv_elab_rules.specs.ExpressionSteps.{asked, asked_parts, own_divisors, sized_parts}
use Rattle.sv_elab_rules.specs.ExpressionSteps.{is_part, is_count}
use Rattle.sv_elab_rules.proofs.WalkLemmas.{end_after, end_broken}
use Rattle.sv_width.specs.Answers.{step_of, IsBreach}
use Rattle.sv_width.specs.Settings.{selected_steps}
use Rattle.sv_width.specs.Measured.{OwnForm, MeasuredTree, MeasuredTrees, own_form, own_of}
use Rattle.sv_width.specs.Measured.{measured_of, measured_parts}
use Rattle.sv_width.specs.Measured as measured
use Rattle.sv_width.specs.Pushed.{joined_width}
use Rattle.sv_width.specs.Outcomes.{some_named, unary_own, binary_own, choice_own, join_own}
use Rattle.sv_width.specs.Outcomes.{division_steps, join_steps, replication_steps, index_steps}
use Rattle.sv_width.specs.Outcomes.{constant_steps}
use Rattle.sv_width.proofs.Sound.{Sound, SoundParts, both_pass}
use Rattle.sv_width.proofs.Constants.{own_measured, joined_measured}

-- ---- breaches of walks

-- where the first part is broken, the whole is
pub breach_first : {X Y : Type 0} (w : Walk X) (more : X → Walk Y) (f : Fault) → IsBreach w.end f →
    IsBreach (w >>= more).end f
breach_first w more (Rule r) h = end_broken w more (step_of r) h
breach_first w more OutOfMemory h = tt

-- where it is passed, what follows decides
pub breach_after : {X Y : Type 0} (w : Walk X) (more : X → Walk Y) (x : X) (f : Fault) →
    w.end ≡ Ok x → IsBreach (more x).end f → IsBreach (w >>= more).end f
breach_after w more x (Rule r) e h = end_after w more x e ∙ h
breach_after w more x OutOfMemory e h = tt

pub passes_on : {Y : Type 0} (w : Steps) (more : Unit {0} → Walk Y) (r : Result Y WalkStep) →
    w.end ≡ Ok tt → (more tt).end ≡ r → (w >>= more).end ≡ r
passes_on w more r e h = end_after w more tt e ∙ h

-- a breach in two steps that others follow
pub breach_inner : (v w : Steps) (more : Unit {0} → Steps) (f : Fault) →
    IsBreach (v >>= λ _. w).end f → IsBreach (v >>= λ _. w >>= more).end f
breach_inner v w more (Rule r) h = by_first v.end h
  where
    by_first : (r1 : Result (Unit {0}) WalkStep)
        → (then_walk v.passed r1 (λ _. w)).end ≡ Err (step_of r)
        → (then_walk v.passed r1 (λ _. w >>= more)).end ≡ Err (step_of r)
    by_first (Ok x) h = end_broken w more (step_of r) h
    by_first (Err s) h = cc h
breach_inner v w more OutOfMemory h = tt

-- ---- constants name no signal

parameter_only : (b : Option Binding) → IsTrue (is_parameter b) → is_signal b ≡ false
parameter_only (Some (parameter v)) h = refl
parameter_only (Some (signal w s)) h = absurd (cc h)
parameter_only None h = absurd (cc h)

neither : (a b : Bool) → a ≡ false → b ≡ false → (a || b) ≡ false
neither a b p q = ap (λ x. x || b) p ∙ q

module _ (names : Names) where
  mutual
    unfolding Sound SoundParts names_signal some_names_signal

    pub constant_no_signal : (e : ExpressionTree) → Sound names true e →
        names_signal names.scope e ≡ false
    constant_no_signal (literal l p) q = refl
    constant_no_signal (named n p) q = parameter_only (names.scope n) q.1
    constant_no_signal (bit_of n p i) q = absurd (cc q.1)
    constant_no_signal (part_of n p h l) q = absurd (cc q.1)
    constant_no_signal (unary op p e) q = constant_no_signal e q
    constant_no_signal (binary op p a b) q =
        neither (names_signal names.scope a) (names_signal names.scope b) (constant_no_signal a q.0)
        (constant_no_signal b q.1)
    constant_no_signal (choice p d a b) q =
        neither (names_signal names.scope d || names_signal names.scope a)
        (names_signal names.scope b)
        (neither (names_signal names.scope d) (names_signal names.scope a)
        (constant_no_signal d q.0) (constant_no_signal a q.1))
        (constant_no_signal b q.2)
    constant_no_signal (join p es) q = constant_parts_name_none es q.0
    constant_no_signal (replication p k es) q =
        neither (names_signal names.scope k) (some_names_signal names.scope es)
        (constant_no_signal k q.0) (constant_parts_name_none es q.2)

    pub constant_parts_name_none : (es : ExpressionTrees) → SoundParts names true es →
        some_names_signal names.scope es ≡ false
    constant_parts_name_none no_expressions q = refl
    constant_parts_name_none (more_expressions e es) q =
        neither (names_signal names.scope e) (some_names_signal names.scope es)
        (constant_no_signal e q.0) (constant_parts_name_none es q.1)

-- ---- operators

module _ (names : Names) (c : Bool) where
  pub unary_measured : (op : UnOp) (p : Place) (e : ExpressionTree) (t u : MeasuredTree)
      → t ≡ measured_of names e
      → u ≡ measured.unary (unary_own op t) op t → u ≡ measured_of names (unary op p e)
  unfolding measured_of measured_parts length_of joined_length signed_of names_signal
      some_names_signal
  unary_measured op p e t u is made =
      made ∙ ap (λ x. measured.unary (unary_own op x) op x) is
      ∙ ap (λ (o : OwnForm). measured.unary (record {
        width = if gives_one_bit op then 1 else o.width;
        signed = if gives_one_bit op then false else o.signed;
        names_signal = o.names_signal;
      }) op (measured_of names e)) (own_measured names e)

  pub binary_measured : (op : BinOp) (p : Place) (a b : ExpressionTree) (t u v : MeasuredTree)
      → t ≡ measured_of names a → u ≡ measured_of names b
      → v ≡ measured.binary (binary_own op t u) op (place_of b) t u
      → v ≡ measured_of names (binary op p a b)
  unfolding measured_of measured_parts length_of joined_length signed_of names_signal
      some_names_signal
  binary_measured op p a b t u v left right made =
      made ∙ ap (λ x. measured.binary (binary_own op x u) op (place_of b) x u) left
      ∙ ap (λ x. measured.binary (binary_own op (measured_of names a) x) op (place_of b)
      (measured_of names a) x) right
      ∙ ap (λ (o : OwnForm). measured.binary (record {
        width = binary_length (class_of op) o.width (own_form (measured_of names b)).width;
        signed = binary_signed (class_of op) o.signed (own_form (measured_of names b)).signed;
        names_signal = o.names_signal || (own_form (measured_of names b)).names_signal;
      }) op (place_of b) (measured_of names a) (measured_of names b)) (own_measured names a)
      ∙ ap (λ (o : OwnForm). measured.binary (record {
        width = binary_length (class_of op) (length_of names.scope a) o.width;
        signed = binary_signed (class_of op) (signed_of names.scope a) o.signed;
        names_signal = names_signal names.scope a || o.names_signal;
      }) op (place_of b) (measured_of names a) (measured_of names b)) (own_measured names b)

  -- what a division is asked
  pub division_asked : (op : BinOp) (p : Place) (a b : ExpressionTree) (t u : MeasuredTree)
      → t ≡ measured_of names a → u ≡ measured_of names b
      → (asked names c a).end ≡ Ok tt → (asked names c b).end ≡ Ok tt
      → (asked names c (binary op p a b)).end ≡ (division_steps op p t u).end
  unfolding asked asked_parts
  division_asked op p a b t u left right first second =
      passes_on (asked names c a) _ _ first
      (passes_on (asked names c b) _ _ second
      (ap (λ (x : Bool). (elim (is_division op) as (λ z.
      Steps) [
        | true ↦ ask (not x) (Rattle.sv_elab_rules.specs.Rules.division p)
        | false ↦
            done tt
      ]).end)
      (sym (ap (λ (o : OwnForm). o.names_signal || (own_form u).names_signal) (ap own_form left
      ∙ own_measured names a)
      ∙ ap (λ (o : OwnForm). names_signal names.scope a || o.names_signal) (ap own_form right
      ∙ own_measured names b)))))

  pub choice_measured : (p : Place) (d a b : ExpressionTree) (q t u v : MeasuredTree)
      → q ≡ measured_of names d → t ≡ measured_of names a
      → u ≡ measured_of names b → v ≡ measured.choice (choice_own q t u) p q t u
      → v ≡ measured_of names (choice p d a b)
  unfolding measured_of measured_parts length_of joined_length signed_of names_signal
      some_names_signal
  choice_measured p d a b q t u v cond left right made =
      made ∙ ap (λ x. measured.choice (choice_own x t u) p x t u) cond
      ∙ ap (λ x. measured.choice (choice_own (measured_of names d) x u) p (measured_of names d) x u)
      left
      ∙ ap (λ x. measured.choice (choice_own (measured_of names d) (measured_of names a) x) p
      (measured_of names d) (measured_of names a) x) right
      ∙ ap (λ (o : OwnForm). measured.choice (record {
        width = max (own_form (measured_of names a)).width (own_form (measured_of names b)).width;
        signed = (own_form (measured_of names a)).signed && (own_form (measured_of names b)).signed;
        names_signal =
            o.names_signal || (own_form (measured_of names a)).names_signal
            || (own_form (measured_of names b)).names_signal;
      }) p (measured_of names d) (measured_of names a) (measured_of names b)) (own_measured names d)
      ∙ ap (λ (o : OwnForm). measured.choice (record {
        width = max o.width (own_form (measured_of names b)).width;
        signed = o.signed && (own_form (measured_of names b)).signed;
        names_signal =
            names_signal names.scope d || o.names_signal
            || (own_form (measured_of names b)).names_signal;
      }) p (measured_of names d) (measured_of names a) (measured_of names b)) (own_measured names a)
      ∙ ap (λ (o : OwnForm). measured.choice (record {
        width = max (length_of names.scope a) o.width;
        signed = signed_of names.scope a && o.signed;
        names_signal = names_signal names.scope d || names_signal names.scope a || o.names_signal;
      }) p (measured_of names d) (measured_of names a) (measured_of names b)) (own_measured names b)

  pub some_measured : (es : ExpressionTrees) →
      some_named (measured_parts names es) ≡ some_names_signal names.scope es
  unfolding measured_of measured_parts names_signal some_names_signal
  some_measured no_expressions = refl
  some_measured (more_expressions e es) =
      ap (λ (o : OwnForm). o.names_signal || some_named (measured_parts names es))
      (own_measured names e)
      ∙ ap (λ x. names_signal names.scope e || x) (some_measured es)

  pub join_measured : (p : Place) (es : ExpressionTrees) (ts : MeasuredTrees) (v : MeasuredTree)
      → ts ≡ measured_parts names es
      → v ≡ measured.join (join_own (joined_width ts) ts) ts → v ≡ measured_of names (join p es)
  unfolding measured_of measured_parts length_of joined_length signed_of names_signal
      some_names_signal
  join_measured p es ts v is made =
      made ∙ ap (λ x. measured.join (join_own (joined_width x) x) x) is
      ∙ ap (λ x. measured.join (record {
        width = x;
        signed = false;
        names_signal = some_named (measured_parts names es);
      }) (measured_parts names es))
      (joined_measured names es)
      ∙ ap (λ x. measured.join (record {
        width = joined_length names.scope es;
        signed = false;
        names_signal = x;
      }) (measured_parts names es)) (some_measured es)

  pub join_asked : (p : Place) (es : ExpressionTrees) (ts : MeasuredTrees)
      → ts ≡ measured_parts names es
      → (asked_parts names c es).end ≡ Ok tt
      → (asked names c (join p es)).end ≡ (join_steps p es ts).end
  unfolding asked asked_parts
  join_asked p es ts is first =
      passes_on (asked_parts names c es) _ _ first
      (ap (λ x. (ask (nat_le x 64) (Rattle.sv_elab_rules.specs.Rules.too_wide p) >>= λ _.
      sized_parts es).end)
      (sym (ap joined_width is ∙ joined_measured names es)))

  pub replication_measured :
      (p : Place) (k : ExpressionTree) (es : ExpressionTrees) (count : ℤ) (ts : MeasuredTrees)
      (v : MeasuredTree)
      → names_signal names.scope k ≡ false → count ≡ whole_number names.scope k
      → ts ≡ measured_parts names es
      → v ≡ measured.replication (join_own (natural count * joined_width ts) ts) (natural count) ts
      → v ≡ measured_of names (replication p k es)
  unfolding measured_of measured_parts length_of joined_length signed_of names_signal
      some_names_signal
  replication_measured p k es count ts v fixed counted is made =
      made ∙ ap (λ (z : ℤ).
      measured.replication (join_own (natural z * joined_width ts) ts) (natural z) ts) counted
      ∙ ap (λ x. measured.replication
      (join_own (natural (whole_number names.scope k) * joined_width x) x)
      (natural (whole_number names.scope k)) x) is
      ∙ ap (λ x. measured.replication (record {
        width = natural (whole_number names.scope k) * x;
        signed = false;
        names_signal = some_named (measured_parts names es);
      }) (natural (whole_number names.scope k)) (measured_parts names es))
      (joined_measured names es)
      ∙ ap (λ x. measured.replication (record {
        width = natural (whole_number names.scope k) * joined_length names.scope es;
        signed = false;
        names_signal = x;
      }) (natural (whole_number names.scope k)) (measured_parts names es)) (some_measured es)
      ∙ ap (λ x. measured.replication (record {
        width = natural (whole_number names.scope k) * joined_length names.scope es;
        signed = false;
        names_signal = x || some_names_signal names.scope es;
      }) (natural (whole_number names.scope k)) (measured_parts names es)) (sym fixed)

  -- what a replication is asked
  pub replication_asked :
      (p : Place) (k : ExpressionTree) (es : ExpressionTrees) (count : ℤ) (ts : MeasuredTrees)
      → count ≡ whole_number names.scope k → ts ≡ measured_parts names es
      → (asked names true k).end ≡ Ok tt → (own_divisors names.scope k).end ≡ Ok tt
      → (asked_parts names c es).end ≡ Ok tt
      → (asked names c (replication p k es)).end ≡
      (replication_steps p (place_of k) count es ts).end
  unfolding asked asked_parts length_of joined_length
  replication_asked p k es count ts counted is first second third =
      passes_on (asked names true k) _ _ first
      (passes_on (own_divisors names.scope k) _ _ second
      (passes_on (asked_parts names c es) _ _ third
      (sym (ap (λ x. (replication_steps p (place_of k) count es x).end) is
      ∙ ap (λ x. (ask (nat_le (natural count * x) 64) (Rattle.sv_elab_rules.specs.Rules.too_wide p)
      >>= λ _. sized_parts es >>= λ _.
      ask (is_count count) (Rattle.sv_elab_rules.specs.Rules.bad_count (place_of k))).end)
      (joined_measured names es)
      ∙ ap (λ (z : ℤ).
      (ask (nat_le (natural z * joined_length names.scope es) 64)
      (Rattle.sv_elab_rules.specs.Rules.too_wide p) >>= λ _.
      sized_parts es >>= λ _.
      ask (is_count z) (Rattle.sv_elab_rules.specs.Rules.bad_count (place_of k))).end) counted))))

  -- a bit, once its signal is there
  pub bit_measured : (n : List ℕ) (p : Place) (i : ExpressionTree) (t u : MeasuredTree)
      → is_signal (names.scope n) ≡ true → t ≡ measured_of names i
      → u ≡ measured.read_bit (record { width = 1; signed = false; names_signal = true })
      (names.number n) p t → u ≡ measured_of names (bit_of n p i)
  unfolding measured_of measured_parts length_of joined_length signed_of names_signal
      some_names_signal
  bit_measured n p i t u there is made =
      made ∙ ap (λ x. measured.read_bit (record { width = 1; signed = false; names_signal = true })
      (names.number n) p x) is
      ∙ ap (λ (x : Bool). measured.read_bit (record {
        width = 1;
        signed = false;
        names_signal = x || names_signal names.scope i;
      }) (names.number n) p
      (measured_of names i)) (sym there)

  pub part_measured : (n : List ℕ) (p : Place) (h l : ExpressionTree) (high low : ℤ)
      (u : MeasuredTree) → is_signal (names.scope n) ≡ true
      → high ≡ whole_number names.scope h → low ≡ whole_number names.scope l
      → u ≡ measured.read_part (record {
        width = span_of (natural high) (natural low);
        signed = false;
        names_signal = true;
      }) (names.number n) p (natural high) (natural low)
      → u ≡ measured_of names (part_of n p h l)
  unfolding measured_of measured_parts length_of joined_length signed_of names_signal
      some_names_signal
  part_measured n p h l high low u there is_high is_low made =
      made
      ∙ ap (λ (z : ℤ). measured.read_part (record {
        width = span_of (natural z) (natural low);
        signed = false;
        names_signal = true;
      }) (names.number n) p (natural z)
      (natural low)) is_high
      ∙ ap (λ (z : ℤ). measured.read_part
      (record {
        width = span_of (natural (whole_number names.scope h)) (natural z);
        signed = false;
        names_signal = true;
      }) (names.number n) p
      (natural (whole_number names.scope h)) (natural z)) is_low
      ∙ ap (λ (x : Bool). measured.read_part (record {
        width =
            span_of (natural (whole_number names.scope h)) (natural (whole_number names.scope l));
        signed = false;
        names_signal = x || names_signal names.scope h || names_signal names.scope l;
      }) (names.number n) p (natural (whole_number names.scope h))
      (natural (whole_number names.scope l))) (sym there)

  -- what follows the name of a bit
  pub bit_asked : (n : List ℕ) (p : Place) (i : ExpressionTree)
      → (selected_steps names c p n).end ≡ Ok tt → c ≡ false
      → (asked names c (bit_of n p i)).end ≡ (index_steps names (width_of (names.scope n)) i).end
  unfolding asked asked_parts
  bit_asked n p i chosen opened =
      let both = both_pass (ask (means_signal names n) (unknown_name p n)) _ chosen in
      passes_on (ask (means_signal names n) (unknown_name p n)) _ _ both.0
      (passes_on (ask (not c) (not_constant p)) _ _ both.1 refl)

  -- a name that is refused
  pub bit_refused : (n : List ℕ) (p : Place) (i : ExpressionTree) (f : Fault)
      → IsBreach (selected_steps names c p n).end f
      → IsBreach (asked names c (bit_of n p i)).end f
  unfolding asked asked_parts
  bit_refused n p i f h =
      breach_inner (ask (means_signal names n) (unknown_name p n))
      (ask (not c) (not_constant p)) _ f h

  pub part_refused : (n : List ℕ) (p : Place) (hi lo : ExpressionTree) (f : Fault)
      → IsBreach (selected_steps names c p n).end f
      → IsBreach (asked names c (part_of n p hi lo)).end f
  unfolding asked asked_parts
  part_refused n p hi lo f h =
      breach_inner (ask (means_signal names n) (unknown_name p n))
      (ask (not c) (not_constant p)) _ f h

  abbrev part_rest : List ℕ → Place → ExpressionTree → ExpressionTree → Steps
  part_rest n p hi lo = constant_steps names hi >>= λ _. constant_steps names lo >>= λ _.
      ask (is_part (width_of (names.scope n)) (whole_number names.scope hi)
      (whole_number names.scope lo)) (bad_select p)
