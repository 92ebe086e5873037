-- What a flat process of a link links: the numbers of the port and of the signal that is linked as
-- a whole.
use Rattle.std.proofs.Common.{◌≡◌, ◌≤◌, ℕ, max, Bool, true, false, cond, List}
use Rattle.std.proofs.Common.{Option, Some, None, refl, sym, ap, subst, ◌∙◌, ◌⊎◌, inl}
use Rattle.std.proofs.Common.{inr, ⊎_elim}
use Rattle.std.specs.Prelude.{if◌then◌else◌, Ok, IsTrue}
use Rattle.std.specs.Prelude.{option_map, option_and_then}
use Rattle.std.specs.List.{slice_get, filter_map}
use Rattle.std.proofs.lemmas.Bool.{false≢true, or_cases}
use Rattle.sv_num.specs.BinaryValues.{is_division}
use Rattle.sv_num.specs.declared.faults.Place.{Place}
use Rattle.sv_num.specs.UnaryValues.{gives_one_bit}
use Rattle.sv_ast.specs.Scopes.{Binding, parameter, signal, width_of}
use Rattle.sv_ast.specs.Tree.{ExpressionTree, literal, named, bit_of, part_of}
use Rattle.sv_ast.specs.Tree.{unary, binary, choice, join, replication}
use Rattle.sv_ast.specs.Values.{length_of, signed_of}
use Rattle.sv_ast.specs.Instances.{is_signal, whole_signal}
use Rattle.sv_ast.specs.ClockPaths.{is_input_kind}
use Rattle.sv_ast.specs.Parts.{Part, PartSignal, within, PortLink, port_path}
use Rattle.sv_ast.specs.Parts.{declaration_of, declarations}
use Rattle.sv_ast.specs.GrammarModules.{place_of}
use Rattle.sv_flat.specs.Design.{TypedTree, ProcessForm, port_in, port_out}
use Rattle.sv_flat.specs.Clocks.{whole_name, link_in, link_out}
use Rattle.sv_elab_rules.specs.Walks.{Walk, ask, found}
use Rattle.sv_elab_rules.specs.Rules.{unknown_name, wrong_link}
use Rattle.sv_elab_rules.specs.Names.{Names, is_bound, in_reach}
use Rattle.sv_elab_rules.specs.TypedExpressions.{named_node, typed_of}
use Rattle.sv_elab_rules.specs.ExpressionSteps.{asked, divisors, typed_walk, expression_walk}
use Rattle.sv_elab_rules.specs.Links.{port_number, port_width, port_value, whole_assignment}
use Rattle.sv_elab_rules.specs.Links.{input_link, output_link, link_walk}
use Rattle.sv_elab_rules.specs.LabelSteps.{SharedTables}
use Rattle.sv_elab_rules.proofs.WalkLemmas.{parts_done, asked_true, found_some}
use Rattle.sv_width.specs.Agreement.{AllDeclared}
use Rattle.sv_elab_laws.proofs.PartsLists.{contains_get, get_left}
use Rattle.sv_elab_laws.proofs.PartsDeclared.{same_ok}
use Rattle.sv_elab_laws.proofs.PartsGrown.{IsLink, IsNumberOf, number_of_name}

-- a typed expression is a whole name just where its source names a signal as a whole
named_is_whole : (names : Names) (n : List ℕ) (p : Place) (k : ℕ) (s : Bool) (b : Option Binding)
    → names.scope n ≡ b → is_bound b ≡ true
    → whole_name (Rattle.sv_flat.specs.Design.typed k s (named_node b (names.number n) p k s)) ≡
    option_map names.number (if is_signal b then Some n else None)
named_is_whole names n p k s (Some (signal width signed)) e h = refl
named_is_whole names n p k s (Some (parameter v)) e h = refl
named_is_whole names n p k s None e h = absurd (false≢true h)

in_reach_bound : (names : Names) (n : List ℕ) → AllDeclared names → in_reach names n ≡ true →
    is_bound (names.scope n) ≡ true
in_reach_bound names n declared h = ⊎_elim
    (λ bound. bound)
    (λ later. absurd (false≢true (sym (declared n) ∙ later)))
    (or_cases (is_bound (names.scope n)) (names.later n) h)

by_bool : (b : Bool) (x y : TypedTree) → whole_name x ≡ None → whole_name y ≡ None
    → whole_name (elim b as (λ z. TypedTree) [ true ↦ x | false ↦ y ]) ≡ None
by_bool true x y h k = h
by_bool false x y h k = k

pub whole_typed : (names : Names) → AllDeclared names → (e : ExpressionTree) (k : ℕ) (s : Bool)
    → (asked names false e).end ≡ Ok tt
    → whole_name (typed_of names e k s) ≡ option_map names.number (whole_signal names.scope e)
unfolding typed_of asked
whole_typed names declared (named n p) k s h =
    let first = parts_done (ask (in_reach names n) (unknown_name p n)) _ tt h in
    named_is_whole names n p k s (names.scope n) refl
    (in_reach_bound names n declared (asked_true (in_reach names n) (unknown_name p n) first.1))
whole_typed names declared (literal l p) k s h = refl
whole_typed names declared (bit_of n p i) k s h = refl
whole_typed names declared (part_of n p a b) k s h = refl
whole_typed names declared (unary op p e) k s h = by_bool (gives_one_bit op) _ _ refl refl
whole_typed names declared (binary op p a b) k s h = by_bool (is_division op) _ _ refl refl
whole_typed names declared (choice p c a b) k s h = refl
whole_typed names declared (join p es) k s h = refl
whole_typed names declared (replication p c es) k s h = refl

module _ (tables : SharedTables) (sources : List PartSignal) (everything : List Part) (l : PortLink)
    (f : ProcessForm)
    (link : IsLink tables sources everything l f) where
  -- the numbers of the ends of a link
  abbrev pub port_at : ℕ
  port_at = link.inner.number l.port.name

  pub port_listed : (j : ℕ) × (slice_get (declarations l.inner.definition) j ≡ Some l.port)
  port_listed =
      let at = contains_get l.inner.definition.ports l.port link.listed in (
        at.0,
        get_left l.inner.definition.ports (filter_map declaration_of l.inner.definition.items)
            at.0 l.port at.1,
      )

  pub port_is_signal : IsTrue (is_signal (link.inner.scope l.port.name))
  port_is_signal = (link.inner_named.known port_listed.0 l.port port_listed.1).0

  -- the port stands among the names inside with its bits, of which there are some
  pub port_stands : link.inner.scope l.port.name
      ≡ Some (signal (port_width link.ports l.port) l.port.signed)
  port_stands =
      let there = link.inner_named.signs port_listed.0 l.port port_listed.1 in
      there.1
      ∙ ap (λ w. Some (signal w l.port.signed)) (sym (ap width_of (link.stands ∙ there.1)))

  pub some_bits : 1 ≤ port_width link.ports l.port
  some_bits =
      (link.inner_named.widths l.port.name (port_width link.ports l.port) l.port.signed
      port_stands).0

  pub port_numbered : IsNumberOf tables sources everything (port_path l) port_at
  port_numbered =
      number_of_name tables sources everything l.inner link.inner link.inner_named l.port.name
      port_is_signal

  outer_whole : (n : List ℕ) → whole_signal link.outer.scope l.expression ≡ Some n →
      IsTrue (is_signal (link.outer.scope n))
  outer_whole n e = by_name (Rattle.sv_ast.specs.Instances.whole_name l.expression) e
    where
      by_test : (m : List ℕ) (b : Bool) → is_signal (link.outer.scope m) ≡ b →
          cond b (Some m) None ≡ Some n → IsTrue (is_signal (link.outer.scope n))
      by_test m true is same =
          subst (λ z. IsTrue (is_signal (link.outer.scope z))) (let s : m ≡ n = cc same in s) is
      by_test m false is same = absurd (cc same)

      by_name : (o : Option (List ℕ))
          → option_and_then (λ m. if is_signal (link.outer.scope m) then Some m
          else None) o ≡ Some n
          → IsTrue (is_signal (link.outer.scope n))
      by_name (Some m) same = by_test m (is_signal (link.outer.scope m)) refl same
      by_name None same = absurd (cc same)

  pub outer_numbered : (n : List ℕ) → whole_signal link.outer.scope l.expression ≡ Some n
      → IsTrue (is_signal (link.outer.scope n))
      × IsNumberOf tables sources everything (within l.outer n) (link.outer.number n)
  outer_numbered n e = (
    outer_whole n e,
    number_of_name tables sources everything l.outer link.outer link.outer_named
        n (outer_whole n e),
  )

  -- what a link of an input port is
  pub record IsInput : Type 0 where
    pub value : TypedTree
    pub typed : (expression_walk link.outer l.expression (port_width link.ports l.port)).end ≡
        Ok value
    pub form : f ≡ whole_assignment (place_of l.expression) port_in
        (port_number link.ports l.port.name) (port_width link.ports l.port) value
    pub walked : (input_link link.outer link.ports l.port l.expression).end ≡ Ok f
    pub linked : link_in f ≡ option_map (λ n.
        (port_at, link.outer.number n)) (whole_signal link.outer.scope l.expression)
    pub no_output : link_out f ≡ None

  pub record IsOutput : Type 0 where
    pub name : List ℕ
    pub whole : whole_signal link.outer.scope l.expression ≡ Some name
    pub form : f ≡ whole_assignment (place_of l.expression) port_out (link.outer.number name)
        (width_of (link.outer.scope name))
        (port_value link.ports l.port (width_of (link.outer.scope name)) (place_of l.expression))
    pub walked : (output_link link.outer link.ports l.port l.expression).end ≡ Ok f
    pub linked : link_out f ≡ Some (link.outer.number name, port_at)
    pub no_input : link_in f ≡ None

  typed_passes : (width : ℕ) (value : TypedTree)
      → (expression_walk link.outer l.expression width).end ≡ Ok value
      → ((asked link.outer false l.expression).end ≡ Ok tt)
      × (typed_of link.outer l.expression (max (length_of link.outer.scope l.expression) width)
      (signed_of link.outer.scope l.expression) ≡ value)
  unfolding expression_walk typed_walk
  typed_passes width value h =
      let k = max (length_of link.outer.scope l.expression) width in
      let s = signed_of link.outer.scope l.expression in
      let first = parts_done (asked link.outer false l.expression) _ value h in
      let second = parts_done (divisors link.outer.scope l.expression k s) _ value first.2 in
      (first.1, same_ok (typed_of link.outer l.expression k s) value second.2)

  mapped_twice : {A B C : Type 0} (g : B → C) (h : A → B) (o : Option A) →
      option_map g (option_map h o) ≡ option_map (λ a. g (h a)) o
  mapped_twice g h (Some a) = refl
  mapped_twice g h None = refl

  input_is : (input_link link.outer link.ports l.port l.expression).end ≡ Ok f → IsInput
  unfolding input_link
  input_is h =
      let width = port_width link.ports l.port in
      let first = parts_done (expression_walk link.outer l.expression width) _ f h in
      let passes = typed_passes width first.0 first.1 in
      let form = same_ok (whole_assignment (place_of l.expression) port_in
      (port_number link.ports l.port.name) width first.0) f first.2 in
      record {
        value = first.0;
        typed = first.1;
        form = sym form;
        walked = h;
        linked = ap link_in (sym form)
            ∙ ap (λ v. option_map (λ s. (port_number link.ports l.port.name, s)) (whole_name v))
            (sym passes.1)
            ∙ ap (option_map (λ s. (port_number link.ports l.port.name, s)))
            (whole_typed link.outer link.outer_named.declared l.expression
            (max (length_of link.outer.scope l.expression) width)
            (signed_of link.outer.scope l.expression) passes.0)
            ∙ mapped_twice (λ s. (port_number link.ports l.port.name, s)) link.outer.number
            (whole_signal link.outer.scope l.expression)
            ∙ ap (λ k. option_map (λ n.
            (k, link.outer.number n)) (whole_signal link.outer.scope l.expression)) link.number;
        no_output = ap link_out (sym form);
      }

  output_is : (output_link link.outer link.ports l.port l.expression).end ≡ Ok f → IsOutput
  unfolding output_link
  output_is h =
      let first = parts_done
      (found (whole_signal link.outer.scope l.expression)
      (wrong_link (place_of l.expression) l.port.name)) _ f h in
      let n = first.0 in
      let width = width_of (link.outer.scope n) in
      let form = same_ok (whole_assignment (place_of l.expression) port_out
      (link.outer.number n) width
      (port_value link.ports l.port width (place_of l.expression))) f first.2 in
      record {
        name = n;
        whole =
            found_some (whole_signal link.outer.scope l.expression)
            (wrong_link (place_of l.expression) l.port.name) n first.1;
        form = sym form;
        walked = h;
        linked = ap link_out (sym form) ∙ ap (λ k. Some (link.outer.number n, k)) link.number;
        no_input = ap link_in (sym form);
      }

  by_kind : (b : Bool) → (elim b as (λ x. Walk ProcessForm) [
    | true ↦ input_link link.outer link.ports l.port l.expression
    | false ↦ output_link link.outer link.ports l.port l.expression
  ]).end ≡ Ok f → ((b ≡ true) × IsInput) ⊎ ((b ≡ false) × IsOutput)
  by_kind true h = inl (refl, input_is h)
  by_kind false h = inr (refl, output_is h)

  -- a link is that of an input port or that of an output port
  pub link_is : ((is_input_kind l.port.kind ≡ true) × IsInput)
      ⊎ ((is_input_kind l.port.kind ≡ false) × IsOutput)
  unfolding link_walk
  link_is = by_kind (is_input_kind l.port.kind) link.walked
