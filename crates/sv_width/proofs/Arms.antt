-- The first walk at each kind of expression, from what the code finds of its operands.
use Rattle.std.proofs.Common.{◌≡◌, ℕ, ◌*◌, Bool, true, false, List, refl, sym, ap, subst, ◌∙◌}
use Rattle.std.specs.Prelude.{Option, Some, option_map, IsTrue, ℤ, Result}
use Rattle.std.specs.Prelude.{Ok}
use Rattle.sv_num.specs.declared.faults.Place.{Place}
use Rattle.sv_num.specs.declared.faults.Fault.{Fault}
use Rattle.sv_num.specs.declared.operators.BinOp.{BinOp}
use Rattle.sv_num.specs.declared.operators.UnOp.{UnOp}
use Rattle.sv_num.specs.declared.vectors.Bits.{Bits}
use Rattle.sv_num.specs.Vectors.{as_number, number_of as whole_of}
use Rattle.sv_num.specs.Parts.{span_of}
use Rattle.sv_ast.specs.Scopes.{Number, Binding, width_of}
use Rattle.sv_ast.specs.Tree.{ExpressionTree, ExpressionTrees, bit_of, part_of, unary, binary}
use Rattle.sv_ast.specs.Tree.{choice, join, replication}
use Rattle.sv_ast.specs.Values.{natural, whole_number}
use Rattle.sv_ast.specs.Instances.{is_signal}
use Rattle.sv_ast.specs.GrammarModules.{place_of}
use Rattle.sv_elab_rules.specs.Walks.{WalkStep, ask}
use Rattle.sv_elab_rules.specs.Rules.{unknown_name, bad_select}
use Rattle.sv_elab_rules.specs.Names.{Names, means_signal}
use Rattle.sv_elab_rules.specs.ExpressionSteps.{asked, asked_parts, own_divisors, is_part}
use Rattle.sv_width.specs.declared.meanings.KnownSignal.{KnownSignal}
use Rattle.sv_width.specs.declared.meanings.Meaning.{Meaning}
use Rattle.sv_width.specs.declared.meanings.Meaning.TheVariants as meaning
use Rattle.sv_width.specs.Answers.{IsBreach}
use Rattle.sv_width.specs.Scopes.{Known, binding_of, meaning_of}
use Rattle.sv_width.specs.Scopes.{signal_number, names_of}
use Rattle.sv_width.specs.Settings.{selected_steps}
use Rattle.sv_width.specs.Measured.{OwnForm, MeasuredTree, MeasuredTrees, own_form, measured_of}
use Rattle.sv_width.specs.Measured.{measured_parts}
use Rattle.sv_width.specs.Measured as measured
use Rattle.sv_width.specs.Pushed.{joined_width}
use Rattle.sv_width.specs.Outcomes.{unary_own, binary_own, choice_own, join_own, division_steps}
use Rattle.sv_width.specs.Outcomes.{join_steps, replication_steps, index_steps, constant_steps}
use Rattle.sv_width.specs.Outcomes.{IsValue}
use Rattle.sv_width.proofs.Sound.{both_pass, passed_sound}
use Rattle.sv_width.proofs.Named.{signal_selected}
use Rattle.sv_width.proofs.Measures.{breach_first, breach_after, breach_inner, passes_on}
use Rattle.sv_width.proofs.Measures.{unary_measured, binary_measured, division_asked}
use Rattle.sv_width.proofs.Measures.{choice_measured, join_measured, join_asked}
use Rattle.sv_width.proofs.Measures.{replication_measured, replication_asked, bit_measured}
use Rattle.sv_width.proofs.Measures.{part_measured, bit_asked}
use Rattle.sv_width.proofs.Measures.{constant_no_signal}

-- an expression that breaks no rule, in its measured form
abbrev pub Found : Names → Bool → ExpressionTree → MeasuredTree → Type 0
Found names c e t = ((asked names c e).end ≡ Ok tt) × (t ≡ measured_of names e)

pub whole_value : (names : Names) (e : ExpressionTree) (bits : Bits) → IsValue names e bits →
    whole_of bits ≡ whole_number names.scope e
whole_value names e bits h = ap (λ (z : Number). as_number z.width z.signed z.value) h.2

module _ (known : Known) (n : List ℕ) (p : Place) (k : KnownSignal)
    (means : meaning_of known n ≡ Some (meaning.Signal k)) where
  scope_is : (names_of known).scope n ≡ Some (binding_of (meaning.Signal k))
  scope_is = ap (λ (m : Option Meaning). option_map binding_of m) means

  selected : (selected_steps (names_of known) false p n).end ≡ Ok tt
  selected = signal_selected (names_of known) n p k.width k.signed scope_is

  signal_is : is_signal ((names_of known).scope n) ≡ true
  signal_is = ap (λ (b : Option Binding). is_signal b) scope_is

  width_is : width_of ((names_of known).scope n) ≡ k.width
  width_is = ap (λ (b : Option Binding). width_of b) scope_is

  number_is : (names_of known).number n ≡ k.signal.0
  number_is = ap signal_number means

  index_end : (i : ExpressionTree) →
      (asked (names_of known) false (bit_of n p i)).end ≡
      (index_steps (names_of known) k.width i).end
  index_end i =
      bit_asked (names_of known) false n p i selected refl
      ∙ ap (λ w. (index_steps (names_of known) w i).end) width_is

  pub bit_found : (i : ExpressionTree) (t u : MeasuredTree)
      → (index_steps (names_of known) k.width i).end ≡ Ok tt → t ≡ measured_of (names_of known) i
      → u ≡ measured.read_bit (record { width = 1; signed = false; names_signal = true }) k.signal.0
      p t → Found (names_of known) false (bit_of n p i) u
  bit_found i t u passes is made = (
    index_end i ∙ passes,
    bit_measured (names_of known) false n p i t u signal_is is
        (made ∙ ap (λ x. measured.read_bit (record {
          width = 1;
          signed = false;
          names_signal = true;
        }) x p t) (sym number_is)),
  )

  pub bit_broken : (i : ExpressionTree) (f : Fault) →
      IsBreach (index_steps (names_of known) k.width i).end f →
      IsBreach (asked (names_of known) false (bit_of n p i)).end f
  bit_broken i f h = subst (λ (r : Result (Unit {0}) WalkStep). IsBreach r f) (sym (index_end i)) h

  module _ (h l : ExpressionTree) where
    pub part_high_broken : (f : Fault) → IsBreach (constant_steps (names_of known) h).end f →
        IsBreach (asked (names_of known) false (part_of n p h l)).end f
    unfolding asked asked_parts
    part_high_broken f breach =
        let both = both_pass (ask (means_signal (names_of known) n) (unknown_name p n)) _
        selected in
        breach_after (ask (means_signal (names_of known) n) (unknown_name p n)) _ tt f both.0
        (breach_inner (asked (names_of known) true h) (own_divisors (names_of known).scope h) _
        f breach)

    pub part_low_broken : (bits : Bits) (f : Fault) → IsValue (names_of known) h bits
        → IsBreach (constant_steps (names_of known) l).end f
        → IsBreach (asked (names_of known) false (part_of n p h l)).end f
    unfolding asked asked_parts
    part_low_broken bits f high breach =
        let both = both_pass (ask (means_signal (names_of known) n) (unknown_name p n)) _
        selected in
        breach_after (ask (means_signal (names_of known) n) (unknown_name p n)) _ tt f both.0
        (breach_after (asked (names_of known) true h) _ tt f high.0
        (breach_after (own_divisors (names_of known).scope h) _ tt f high.1
        (breach_inner (asked (names_of known) true l) (own_divisors (names_of known).scope l) _ f
        breach)))

    part_end : (high low : Bits) → IsValue (names_of known) h high → IsValue (names_of known) l low
        → (asked (names_of known) false (part_of n p h l)).end ≡
        (ask (is_part k.width (whole_of high) (whole_of low)) (bad_select p)).end
    unfolding asked asked_parts
    part_end high low is_high is_low =
        let both = both_pass (ask (means_signal (names_of known) n) (unknown_name p n)) _
        selected in
        passes_on (ask (means_signal (names_of known) n) (unknown_name p n)) _ _ both.0
        (passes_on (asked (names_of known) true h) _ _ is_high.0
        (passes_on (own_divisors (names_of known).scope h) _ _ is_high.1
        (passes_on (asked (names_of known) true l) _ _ is_low.0
        (passes_on (own_divisors (names_of known).scope l) _ _ is_low.1
        (ap (λ w.
        (ask (is_part w (whole_number (names_of known).scope h)
        (whole_number (names_of known).scope l)) (bad_select p)).end) width_is
        ∙ ap (λ (z : ℤ).
        (ask (is_part k.width z (whole_number (names_of known).scope l)) (bad_select p)).end)
        (sym (whole_value (names_of known) h high is_high))
        ∙ ap (λ (z : ℤ). (ask (is_part k.width (whole_of high) z) (bad_select p)).end)
        (sym (whole_value (names_of known) l low is_low)))))))

    pub part_broken : (high low : Bits) (f : Fault) → IsValue (names_of known) h high
        → IsValue (names_of known) l low
        → IsBreach (ask (is_part k.width (whole_of high) (whole_of low)) (bad_select p)).end f
        → IsBreach (asked (names_of known) false (part_of n p h l)).end f
    part_broken high low f is_high is_low breach =
        subst (λ (r : Result (Unit {0}) WalkStep).
        IsBreach r f) (sym (part_end high low is_high is_low)) breach

    pub part_found : (high low : Bits) (u : MeasuredTree) → IsValue (names_of known) h high
        → IsValue (names_of known) l low
        → IsTrue (is_part k.width (whole_of high) (whole_of low))
        → u ≡ measured.read_part
        (record {
          width = span_of (natural (whole_of high)) (natural (whole_of low));
          signed = false;
          names_signal = true;
        })
        k.signal.0 p (natural (whole_of high)) (natural (whole_of low))
        → Found (names_of known) false (part_of n p h l) u
    part_found high low u is_high is_low inside made = (
      part_end high low is_high is_low ∙ ap (λ (b : Bool). (ask b (bad_select p)).end) inside,
      part_measured (names_of known) false n p h l (whole_of high) (whole_of low) u signal_is
          (whole_value (names_of known) h high is_high) (whole_value (names_of known) l low is_low)
          (made ∙ ap (λ x. measured.read_part
          (record {
            width = span_of (natural (whole_of high)) (natural (whole_of low));
            signed = false;
            names_signal = true;
          })
          x p (natural (whole_of high)) (natural (whole_of low))) (sym number_is)),
    )

-- ---- operators

module _ (names : Names) (c : Bool) where
  pub unary_found : (op : UnOp) (p : Place) (e : ExpressionTree) (t u : MeasuredTree)
      → Found names c e t
      → u ≡ measured.unary (unary_own op t) op t → Found names c (unary op p e) u
  unfolding asked asked_parts
  unary_found op p e t u found made = (found.0, unary_measured names c op p e t u found.1 made)

  pub unary_broken : (op : UnOp) (p : Place) (e : ExpressionTree) (f : Fault) →
      IsBreach (asked names c e).end f → IsBreach (asked names c (unary op p e)).end f
  unfolding asked asked_parts
  unary_broken op p e f h = h

  pub binary_found : (op : BinOp) (p : Place) (a b : ExpressionTree) (t u v : MeasuredTree)
      → Found names c a t → Found names c b u
      → (division_steps op p t u).end ≡ Ok tt
      → v ≡ measured.binary (binary_own op t u) op (place_of b) t u
      → Found names c (binary op p a b) v
  binary_found op p a b t u v left right passes made = (
    division_asked names c op p a b t u left.1 right.1 left.0 right.0
        ∙ passes,
    binary_measured names c op p a b t u v left.1 right.1 made,
  )

  pub binary_left_broken : (op : BinOp) (p : Place) (a b : ExpressionTree) (f : Fault) →
      IsBreach (asked names c a).end f → IsBreach (asked names c (binary op p a b)).end f
  unfolding asked asked_parts
  binary_left_broken op p a b f h = breach_first (asked names c a) _ f h

  pub binary_right_broken : (op : BinOp) (p : Place) (a b : ExpressionTree) (f : Fault)
      → (asked names c a).end ≡ Ok tt → IsBreach (asked names c b).end f
      → IsBreach (asked names c (binary op p a b)).end f
  unfolding asked asked_parts
  binary_right_broken op p a b f first h =
      breach_after (asked names c a) _ tt f first (breach_first (asked names c b) _ f h)

  pub binary_broken : (op : BinOp) (p : Place) (a b : ExpressionTree) (t u : MeasuredTree)
      (f : Fault) → Found names c a t → Found names c b u
      → IsBreach (division_steps op p t u).end f → IsBreach (asked names c (binary op p a b)).end f
  binary_broken op p a b t u f left right h =
      subst (λ (r : Result (Unit {0}) WalkStep).
      IsBreach r f) (sym (division_asked names c op p a b t u left.1 right.1 left.0 right.0)) h

  pub choice_found : (p : Place) (d a b : ExpressionTree) (q t u v : MeasuredTree)
      → Found names c d q → Found names c a t → Found names c b u
      → v ≡ measured.choice (choice_own q t u) p q t u → Found names c (choice p d a b) v
  unfolding asked asked_parts
  choice_found p d a b q t u v cond left right made = (
    passes_on (asked names c d) _ _ cond.0 (passes_on (asked names c a) _ _ left.0 right.0),
    choice_measured names c p d a b q t u v cond.1 left.1 right.1 made,
  )

  pub choice_first_broken : (p : Place) (d a b : ExpressionTree) (f : Fault) →
      IsBreach (asked names c d).end f → IsBreach (asked names c (choice p d a b)).end f
  unfolding asked asked_parts
  choice_first_broken p d a b f h = breach_first (asked names c d) _ f h

  pub choice_second_broken : (p : Place) (d a b : ExpressionTree) (f : Fault)
      → (asked names c d).end ≡ Ok tt → IsBreach (asked names c a).end f
      → IsBreach (asked names c (choice p d a b)).end f
  unfolding asked asked_parts
  choice_second_broken p d a b f first h =
      breach_after (asked names c d) _ tt f first (breach_first (asked names c a) _ f h)

  pub choice_third_broken : (p : Place) (d a b : ExpressionTree) (f : Fault)
      → (asked names c d).end ≡ Ok tt → (asked names c a).end ≡ Ok tt
      → IsBreach (asked names c b).end f → IsBreach (asked names c (choice p d a b)).end f
  unfolding asked asked_parts
  choice_third_broken p d a b f first second h =
      breach_after (asked names c d) _ tt f first (breach_after (asked names c a) _ tt f second h)

  pub join_found : (p : Place) (es : ExpressionTrees) (ts : MeasuredTrees) (v : MeasuredTree)
      → (asked_parts names c es).end ≡ Ok tt → ts ≡ measured_parts names es
      → (join_steps p es ts).end ≡ Ok tt → v ≡ measured.join (join_own (joined_width ts) ts) ts
      → Found names c (join p es) v
  join_found p es ts v first is passes made =
      (join_asked names c p es ts is first ∙ passes, join_measured names c p es ts v is made)

  pub join_parts_broken : (p : Place) (es : ExpressionTrees) (f : Fault) →
      IsBreach (asked_parts names c es).end f → IsBreach (asked names c (join p es)).end f
  unfolding asked asked_parts
  join_parts_broken p es f h = breach_first (asked_parts names c es) _ f h

  pub join_broken : (p : Place) (es : ExpressionTrees) (ts : MeasuredTrees) (f : Fault)
      → (asked_parts names c es).end ≡ Ok tt → ts ≡ measured_parts names es
      → IsBreach (join_steps p es ts).end f → IsBreach (asked names c (join p es)).end f
  join_broken p es ts f first is h =
      subst (λ (r : Result (Unit {0}) WalkStep).
      IsBreach r f) (sym (join_asked names c p es ts is first)) h

  pub count_broken : (p : Place) (k : ExpressionTree) (es : ExpressionTrees) (f : Fault)
      → IsBreach (constant_steps names k).end f
      → IsBreach (asked names c (replication p k es)).end f
  unfolding asked asked_parts
  count_broken p k es f h = breach_inner (asked names true k) (own_divisors names.scope k) _ f h

  pub repeated_parts_broken :
      (p : Place) (k : ExpressionTree) (es : ExpressionTrees) (bits : Bits) (f : Fault)
      → IsValue names k bits
      → IsBreach (asked_parts names c es).end f
      → IsBreach (asked names c (replication p k es)).end f
  unfolding asked asked_parts
  repeated_parts_broken p k es bits f count h =
      breach_after (asked names true k) _ tt f count.0
      (breach_after (own_divisors names.scope k) _ tt f count.1
      (breach_first (asked_parts names c es) _ f h))

  pub replication_found :
      (p : Place) (k : ExpressionTree) (es : ExpressionTrees) (bits : Bits) (ts : MeasuredTrees)
      (v : MeasuredTree)
      → IsValue names k bits → (asked_parts names c es).end ≡ Ok tt → ts ≡ measured_parts names es
      → (replication_steps p (place_of k) (whole_of bits) es ts).end ≡ Ok tt
      → v ≡ measured.replication (join_own (natural (whole_of bits) * joined_width ts) ts)
      (natural (whole_of bits)) ts
      → Found names c (replication p k es) v
  replication_found p k es bits ts v count first is passes made =
      let counted = whole_value names k bits count in (
        replication_asked names c p k es (whole_of bits) ts counted is count.0 count.1 first
            ∙ passes,
        replication_measured names c p k es (whole_of bits) ts v
            (constant_no_signal names k (passed_sound names true k count.0)) counted is made,
      )

  pub replication_broken :
      (p : Place) (k : ExpressionTree) (es : ExpressionTrees) (bits : Bits) (ts : MeasuredTrees)
      (f : Fault)
      → IsValue names k bits → (asked_parts names c es).end ≡ Ok tt → ts ≡ measured_parts names es
      → IsBreach (replication_steps p (place_of k) (whole_of bits) es ts).end f
      → IsBreach (asked names c (replication p k es)).end f
  replication_broken p k es bits ts f count first is h =
      subst (λ (r : Result (Unit {0}) WalkStep). IsBreach r f)
      (sym (replication_asked names c p k es (whole_of bits) ts (whole_value names k bits count) is
      count.0 count.1 first)) h
