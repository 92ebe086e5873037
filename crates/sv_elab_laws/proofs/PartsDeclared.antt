-- What the walk of an instance's declarations makes: the bindings of the source, and a signal for
-- each declaration, in textual order.
use Rattle.std.proofs.Common.{◌≡◌, ℕ, zero, suc, ◌+◌, ◌≤◌, Bool, true, false, cond, List}
use Rattle.std.proofs.Common.{[], ◌∷◌, ◌++◌, map, Option, Some, None, refl, sym, ap, subst}
use Rattle.std.proofs.Common.{◌∙◌, arith, ◌⊎◌, inl, inr, ⊎_elim}
use Rattle.std.specs.Prelude.{not, ◌||◌, nat_lt, ◌==◌, Contains, Ok}
use Rattle.std.specs.Prelude.{unwrap_or, ℤ, pos, negsuc}
use Rattle.std.specs.List.{slice_get, filter_map}
use Rattle.std.proofs.lemmas.Bool.{false≢true, and_parts, ltb-true}
use Rattle.std.proofs.lemmas.List.{append_assoc, append-nil}
use Rattle.sv_system.proofs.Lists.{Contains-cases, Contains-nil}
use Rattle.sv_ast.specs.Scopes.{Number, Binding, parameter, signal, width_of}
use Rattle.sv_ast.specs.Tree.{ExpressionTree, SpanTree, DeclarationTree, ParameterTree, ItemTree}
use Rattle.sv_ast.specs.Tree.{parameter_item, declared}
use Rattle.sv_ast.specs.Values.{natural, constant_of, whole_number}
use Rattle.sv_ast.specs.Instances.{entry, span_width, in_range, bindings_after}
use Rattle.sv_ast.specs.Parts.{declaration_of}
use Rattle.sv_ast.specs.GrammarModules.{place_of}
use Rattle.sv_flat.specs.Design.{SignalForm}
use Rattle.sv_elab_rules.specs.Walks.{done, ask}
use Rattle.sv_elab_rules.specs.Rules.{twice, bad_range}
use Rattle.sv_elab_rules.specs.Names.{Names, is_bound, names_at, number_from}
use Rattle.sv_elab_rules.specs.ExpressionSteps.{asked, own_divisors, constant_walk}
use Rattle.sv_elab_rules.specs.Declarations.{Site, Declared, is_range, range_steps, override_of}
use Rattle.sv_elab_rules.specs.Declarations.{final_walk, parameter_walk, declared_signal, signal_ahead}
use Rattle.sv_elab_rules.specs.Declarations.{signal_walk, declaration_walk, declarations_walk}
use Rattle.sv_width.specs.Agreement.{IsLength}
use Rattle.sv_elab_rules.proofs.WalkLemmas.{parts_done, asked_true}
use Rattle.sv_elab_rules.proofs.DeclarationLemmas.{signal_within}
use Rattle.sv_elab_laws.proofs.PartsBindings.{entry_old, entry_new, entry_cases}
use Rattle.sv_elab_laws.proofs.PartsBindings.{last_entry, signals_in, signals_in_more, number_new}
use Rattle.sv_elab_laws.proofs.PartsBindings.{number_old}

pub same_ok : {X : Type 0} (x y : X) → (done x).end ≡ Ok y → x ≡ y
same_ok x y h = cc h

pub unbound : (o : Option Binding) → not (is_bound o) ≡ true → o ≡ None
unbound (Some b) h = absurd (false≢true h)
unbound None h = refl

-- a constant is found as its value
pub constant_done : (names : Names) (e : ExpressionTree) (n : Number) →
    (constant_walk names e).end ≡ Ok n → constant_of names.scope e ≡ n
unfolding constant_walk
constant_done names e n h =
    let first = parts_done (asked names true e) _ n h in
    let second = parts_done (own_divisors names.scope e) _ n first.2 in
    same_ok (constant_of names.scope e) n second.2

pub final_done : (names : Names) (o : Option Number) (e : ExpressionTree) (n : Number)
    → (final_walk names o e).end ≡ Ok n
    → unwrap_or o (constant_of names.scope e) ≡ n
unfolding final_walk
final_done names (Some m) e n h = same_ok m n h
final_done names None e n h = constant_done names e n h

-- a range gives 1 to 64 bits
range_bound : (high low : ℤ) → is_range 64 high low ≡ true → natural high + 1 ≤ 64
range_bound (pos h) (pos l) is =
    let below = ltb-true h 64 (and_parts (nat_lt h 64) (l == 0) is).0 in omega arith
range_bound (negsuc h) (pos l) is = omega arith
range_bound h (negsuc l) is = absurd (false≢true is)

pub range_length : (names : Names) (span : Option SpanTree) (u : Unit {0}) →
    (range_steps names span).end ≡ Ok u → IsLength (span_width names.scope span)
unfolding range_steps
range_length names None u h = omega arith
range_length names (Some span) u h =
    let first = parts_done (constant_walk names span.high) _ u h in
    let second = parts_done (constant_walk names span.low) _ u first.2 in
    let high = whole_number names.scope span.high in
    let low = whole_number names.scope span.low in
    let below = range_bound high low
    (asked_true (is_range 64 high low) (bad_range (place_of span.high)) second.2) in
    omega arith

module _ (base least : ℕ) (site : Site) where
  -- the value of a parameter after some declarations
  abbrev pub value_after : List (List ℕ × Binding) → ParameterTree → Number
  value_after bs p =
      in_range (entry bs) p.signed p.span
      (unwrap_or (override_of site bs p) (constant_of (entry bs) p.value))

  abbrev pub with_parameter : Declared → ParameterTree → Declared
  with_parameter a p =
      record {
        bindings = a.bindings ++ (p.name, parameter (value_after a.bindings p)) ∷ [];
        signals = a.signals;
      }

  abbrev pub with_signal : Declared → DeclarationTree → Declared
  with_signal a d = record {
    bindings = a.bindings ++ (d.name, signal (span_width (entry a.bindings) d.span) d.signed) ∷ [];
    signals = a.signals ++ declared_signal site (span_width (entry a.bindings) d.span) least d ∷ [];
  }

  abbrev pub width_after : Declared → DeclarationTree → ℕ
  width_after a d = span_width (entry a.bindings) d.span

  -- the declarations of some items lead from what was declared to what is
  abbrev pub Declares : Declared → Declared → List ItemTree → Type 0
  Declares a w [] = a ≡ w
  Declares a w (parameter_item p ∷ items) =
      (entry a.bindings p.name ≡ None) × Declares (with_parameter a p) w items
  Declares a w (declared d ∷ items) =
      (entry a.bindings d.name ≡ None) × IsLength (width_after a d)
      × Declares (with_signal a d) w items
  Declares a w (_ ∷ items) = Declares a w items

  abbrev pub with_value : Declared → ParameterTree → Number → Declared
  with_value a p n = record {
    bindings = a.bindings
        ++ (p.name, parameter (in_range (entry a.bindings) p.signed p.span n)) ∷ [];
    signals = a.signals;
  }

  -- what the walk of a parameter that ends well has gone through
  pub record ParameterWalked (a : Declared) (p : ParameterTree) (next : Declared) : Type 0 where
    pub ranged : (range_steps (names_at base site.master a.bindings) p.span).end ≡ Ok tt
    pub value : Number
    pub value_done : (final_walk (names_at base site.master a.bindings)
        (override_of site a.bindings p) p.value).end ≡ Ok value
    pub fresh : not (is_bound (entry a.bindings p.name)) ≡ true
    pub is : with_value a p value ≡ next

  pub parameter_walked : (a : Declared) (p : ParameterTree) (next : Declared)
      → (parameter_walk base site a p).end ≡ Ok next → ParameterWalked a p next
  unfolding parameter_walk
  parameter_walked a p next h =
      let names = names_at base site.master a.bindings in
      let first = parts_done (range_steps names p.span) _ next h in
      let second = parts_done (final_walk names (override_of site a.bindings p) p.value) _ next
      first.2 in
      let third = parts_done (ask (not (is_bound (entry a.bindings p.name))) (twice p.place p.name))
      _ next second.2 in
      record {
        ranged = first.1;
        value = second.0;
        value_done = second.1;
        fresh =
            asked_true (not (is_bound (entry a.bindings p.name))) (twice p.place p.name) third.1;
        is = same_ok (with_value a p second.0) next third.2;
      }

  parameter_done : (a : Declared) (p : ParameterTree) (next : Declared)
      → (parameter_walk base site a p).end ≡ Ok next
      → (entry a.bindings p.name ≡ None) × (next ≡ with_parameter a p)
  parameter_done a p next h =
      let w = parameter_walked a p next h in (
        unbound (entry a.bindings p.name) w.fresh,
        sym w.is
            ∙ ap (with_value a p) (sym (final_done (names_at base site.master a.bindings)
            (override_of site a.bindings p) p.value w.value w.value_done)),
      )

  signal_done : (a : Declared) (d : DeclarationTree) (next : Declared)
      → (signal_walk base least site a d).end ≡ Ok next
      → (entry a.bindings d.name ≡ None) × IsLength (width_after a d) × (next ≡ with_signal a d)
  unfolding signal_ahead
  signal_done a d next h =
      let names = names_at base site.master a.bindings in
      let first = parts_done (range_steps names d.span) _ next
      (signal_within base least site a next d h).0 in
      let second = parts_done
      (ask (not (is_bound (entry a.bindings d.name))) (twice d.place d.name)) _ next first.2 in (
        unbound (entry a.bindings d.name)
            (asked_true (not (is_bound (entry a.bindings d.name))) (twice d.place d.name) second.1),
        range_length names d.span first.0 first.1,
        sym (same_ok _ next second.2),
      )

  pub walked : (items : List ItemTree) (a w : Declared) →
      (declarations_walk base least site a items).end ≡ Ok w → Declares a w items
  unfolding declarations_walk declaration_walk
  walked [] a w h = same_ok a w h
  walked (parameter_item p ∷ items) a w h =
      let both = parts_done (parameter_walk base site a p) (λ next.
      declarations_walk base least site next items) w h in
      let step = parameter_done a p both.0 both.1 in
      (step.0, subst (λ next. Declares next w items) step.1 (walked items both.0 w both.2))
  walked (declared d ∷ items) a w h =
      let both = parts_done (signal_walk base least site a d) (λ next.
      declarations_walk base least site next items) w h in
      let step = signal_done a d both.0 both.1 in
      (step.0, step.1, subst (λ next. Declares next w items) step.2 (walked items both.0 w both.2))
  walked (item ∷ items) a w h = walked items a w h

  -- bindings are added behind
  pub extends : (items : List ItemTree) (a w : Declared) → Declares a w items
      → (more : List (List ℕ × Binding)) × (w.bindings ≡ a.bindings ++ more)
  extends [] a w h = ([], ap (λ (x : Declared). x.bindings) (sym h) ∙ sym (append-nil a.bindings))
  extends (parameter_item p ∷ items) a w h =
      let rest = extends items (with_parameter a p) w h.1 in (
        (p.name, parameter (value_after a.bindings p)) ∷ rest.0,
        rest.1
            ∙ append_assoc a.bindings _ rest.0,
      )
  extends (declared d ∷ items) a w h =
      let rest = extends items (with_signal a d) w h.2 in (
        (d.name, signal (span_width (entry a.bindings) d.span) d.signed) ∷ rest.0,
        rest.1
            ∙ append_assoc a.bindings _ rest.0,
      )
  extends (item ∷ items) a w h = extends items a w h

  pub still_bound : (items : List ItemTree) (a w : Declared) → Declares a w items
      → (n : List ℕ) (b : Binding) → entry a.bindings n ≡ Some b
      → entry w.bindings n ≡ Some b
  still_bound items a w h n b e =
      let more = extends items a w h in
      ap (λ bs. entry bs n) more.1 ∙ entry_old a.bindings more.0 n b e

  pub still_numbered : (items : List ItemTree) (a w : Declared) → Declares a w items
      → (n : List ℕ) (width : ℕ) (signed : Bool)
      → entry a.bindings n ≡ Some (signal width signed)
      → number_from base w.bindings n ≡ number_from base a.bindings n
  still_numbered items a w h n width signed e =
      let more = extends items a w h in
      ap (λ bs. number_from base bs n) more.1 ∙ number_old a.bindings more.0 base n width signed e

  -- a declared signal is known in the end
  declared_known : (items : List ItemTree) (a w : Declared) (d : DeclarationTree)
      → entry a.bindings d.name ≡ None
      → Declares (with_signal a d) w items
      → entry w.bindings d.name ≡ Some (signal (width_after a d) d.signed)
  declared_known items a w d fresh h =
      still_bound items (with_signal a d) w h d.name (signal (width_after a d) d.signed)
      (entry_new a.bindings d.name (signal (width_after a d) d.signed) fresh)

  declared_number : (items : List ItemTree) (a w : Declared) (d : DeclarationTree)
      → entry a.bindings d.name ≡ None
      → Declares (with_signal a d) w items
      → number_from base w.bindings d.name ≡ base + signals_in a.bindings
  declared_number items a w d fresh h =
      still_numbered items (with_signal a d) w h d.name (width_after a d) d.signed
      (entry_new a.bindings d.name (signal (width_after a d) d.signed) fresh)
      ∙ number_new a.bindings base d.name (width_after a d) d.signed fresh

  one_more_signal : (bs : List (List ℕ × Binding)) (n : List ℕ) (width : ℕ) (signed : Bool) (k : ℕ)
      → signals_in bs ≡ k
      → signals_in (bs ++ (n, signal width signed) ∷ []) ≡ suc k
  one_more_signal bs n width signed k e =
      let more = signals_in_more bs ((n, signal width signed) ∷ []) in omega arith

  same_count : (bs : List (List ℕ × Binding)) (n : List ℕ) (v : Number) (k : ℕ) → signals_in bs ≡ k
      → signals_in (bs ++ (n, parameter v) ∷ []) ≡ k
  same_count bs n v k e = let more = signals_in_more bs ((n, parameter v) ∷ []) in omega arith

  -- a declaration's name stands for a signal, with the number of its place
  pub record KnownAt (w : Declared) (k : ℕ) (d : DeclarationTree) : Type 0 where
    pub width : ℕ
    pub stands : entry w.bindings d.name ≡ Some (signal width d.signed)
    pub number : number_from base w.bindings d.name ≡ base + k

  pub known : (items : List ItemTree) (a w : Declared) → Declares a w items → (k : ℕ)
      → signals_in a.bindings ≡ k
      → (j : ℕ) (d : DeclarationTree) → slice_get (filter_map declaration_of items) j ≡ Some d
      → KnownAt w (k + j) d
  known [] a w h k count j d at = absurd (cc at)
  known (parameter_item p ∷ items) a w h k count j d at =
      known items (with_parameter a p) w h.1 k
      (same_count a.bindings p.name (value_after a.bindings p) k count) j d at
  known (declared d ∷ items) a w h k count zero z at =
      subst (KnownAt w (k + 0)) (let e : d ≡ z = cc at in e) (record {
        width = width_after a d;
        stands = declared_known items a w d h.0 h.2;
        number =
            declared_number items a w d h.0 h.2
            ∙ (let e : base + signals_in a.bindings ≡ base + (k + 0) = omega arith in e);
      })
  known (declared d ∷ items) a w h k count (suc j) z at =
      subst (λ m. KnownAt w m z) (let e : suc k + j ≡ k + suc j = omega arith in e)
      (known items (with_signal a d) w h.2 (suc k)
      (one_more_signal a.bindings d.name (width_after a d) d.signed k count) j z at)
  known (item ∷ items) a w h k count j d at = known items a w h k count j d at

  -- a signal for each declaration
  abbrev pub form_in : Declared → DeclarationTree → SignalForm
  form_in w d = declared_signal site (width_of (entry w.bindings d.name)) least d

  pub forms : (items : List ItemTree) (a w : Declared) → Declares a w items
      → w.signals ≡ a.signals ++ map (form_in w) (filter_map declaration_of items)
  forms [] a w h = ap (λ (x : Declared). x.signals) (sym h) ∙ sym (append-nil a.signals)
  forms (parameter_item p ∷ items) a w h = forms items (with_parameter a p) w h.1
  forms (declared d ∷ items) a w h =
      forms items (with_signal a d) w h.2
      ∙ append_assoc a.signals _ (map (form_in w) (filter_map declaration_of items))
      ∙ ap (λ width. a.signals ++ declared_signal site width least d ∷
      map (form_in w) (filter_map declaration_of items))
      (sym (ap width_of (declared_known items a w d h.0 h.2)))
  forms (item ∷ items) a w h = forms items a w h

  -- a name that stands for a signal did before, or is that of a declaration
  pub only_declared : (items : List ItemTree) (a w : Declared) → Declares a w items
      → (n : List ℕ) (width : ℕ) (signed : Bool)
      → entry w.bindings n ≡ Some (signal width signed)
      → (entry a.bindings n ≡ Some (signal width signed))
      ⊎ ((j : ℕ) × (d : DeclarationTree) × (slice_get (filter_map declaration_of items) j ≡ Some d)
      × (d.name ≡ n))
  only_declared [] a w h n width signed e = inl (ap (λ (x : Declared). entry x.bindings n) h ∙ e)
  only_declared (parameter_item p ∷ items) a w h n width signed e = ⊎_elim
      (λ old. ⊎_elim (λ o. inl o)
      (λ new. absurd (let c : parameter (value_after a.bindings p) ≡ signal width signed = new.1 in
      cc c))
      (last_entry a.bindings p.name (parameter (value_after a.bindings p)) n
      (signal width signed) old))
      (λ found. inr found)
      (only_declared items (with_parameter a p) w h.1 n width signed e)
  only_declared (declared d ∷ items) a w h n width signed e = ⊎_elim
      (λ old. ⊎_elim (λ o. inl o)
      (λ new. inr (zero, d, refl, sym new.0))
      (last_entry a.bindings d.name (signal (width_after a d) d.signed) n
      (signal width signed) old))
      (λ found. inr (suc found.0, found.1, found.2, found.3))
      (only_declared items (with_signal a d) w h.2 n width signed e)
  only_declared (item ∷ items) a w h n width signed e = only_declared items a w h n width signed e

  -- ---- the bindings of the source

  -- what is set is a parameter that stands in the items and may be set, or was declared before
  abbrev pub SetIsOpen : Declared → List ItemTree → Type 0
  SetIsOpen a items = (n : List ℕ) (v : Number) → entry site.set n ≡ Some v
      → ((b : Binding) × (entry a.bindings n ≡ Some b))
      ⊎ ((q : ParameterTree) × Contains items (parameter_item q) × (q.local ≡ false) × (q.name ≡ n))

  not_yet : (bs : List (List ℕ × Binding)) (m : List ℕ) (b : Binding) (n : List ℕ) →
      entry (bs ++ (m, b) ∷ []) n ≡ None → entry bs n ≡ None
  not_yet bs m b n h = ⊎_elim
      (λ old. absurd (let e : Some old.0 ≡ None = sym (entry_old bs ((m, b) ∷ []) n old.0 old.1)
      ∙ h in cc e))
      (λ none. none)
      (entry_cases bs n)

  same_item : (p q : ParameterTree) → parameter_item p ≡ parameter_item q → p ≡ q
  same_item p q e = cc e

  no_parameter : (d : DeclarationTree) (q : ParameterTree) → declared d ≡ parameter_item q → ⊥
  no_parameter d q e = cc e

  -- a parameter that is still to come is not declared yet
  later_fresh : (items : List ItemTree) (a w : Declared) → Declares a w items → (q : ParameterTree)
      → Contains items (parameter_item q)
      → entry a.bindings q.name ≡ None
  later_fresh [] a w h q at = absurd (Contains-nil (parameter_item q) at)
  later_fresh (parameter_item p ∷ items) a w h q at = ⊎_elim
      (λ is. subst (λ (z : ParameterTree). entry a.bindings z.name ≡ None) (same_item p q is) h.0)
      (λ inside. not_yet a.bindings p.name (parameter (value_after a.bindings p)) q.name
      (later_fresh items (with_parameter a p) w h.1 q inside))
      (Contains-cases (parameter_item p) items (parameter_item q) at)
  later_fresh (declared d ∷ items) a w h q at = ⊎_elim
      (λ is. absurd (no_parameter d q is))
      (λ inside. not_yet a.bindings d.name (signal (width_after a d) d.signed) q.name
      (later_fresh items (with_signal a d) w h.2 q inside))
      (Contains-cases (declared d) items (parameter_item q) at)
  later_fresh (item ∷ items) a w h q at = ⊎_elim
      (λ is. absurd (cc is))
      (λ inside. later_fresh items a w h q inside)
      (Contains-cases item items (parameter_item q) at)

  -- an instance sets no local parameter
  no_local : (p : ParameterTree) (items : List ItemTree) (a w : Declared)
      → entry a.bindings p.name ≡ None
      → Declares (with_parameter a p) w items → SetIsOpen a (parameter_item p ∷ items)
      → p.local ≡ true → entry site.set p.name ≡ None
  no_local p items a w fresh h open_set local = by_value (entry site.set p.name) refl
    where
      is_not : (v : Number) → entry site.set p.name ≡ Some v → ⊥
      is_not v e = ⊎_elim
          (λ old. let c : None ≡ Some old.0 = sym fresh ∙ old.1 in cc c)
          (λ q. ⊎_elim
          (λ is. false≢true (sym q.2 ∙ ap (λ (z : ParameterTree).
          z.local) (sym (same_item p q.0 is)) ∙ local))
          (λ inside.
          let none = later_fresh items (with_parameter a p) w h q.0 inside in
          let some = entry_new a.bindings p.name (parameter (value_after a.bindings p)) fresh in
          let c : None ≡ Some (parameter (value_after a.bindings p)) =
          sym (subst (λ z. entry (with_parameter a p).bindings z ≡ None) q.3 none) ∙ some in cc c)
          (Contains-cases (parameter_item p) items (parameter_item q.0) q.1))
          (open_set p.name v e)

      by_value : (o : Option Number) → entry site.set p.name ≡ o → entry site.set p.name ≡ None
      by_value (Some v) e = absurd (is_not v e)
      by_value None e = e

  override_is : (p : ParameterTree) (bs : List (List ℕ × Binding)) → entry bs p.name ≡ None
      → (p.local ≡ true → entry site.set p.name ≡ None)
      → override_of site bs p ≡ entry site.set p.name
  override_is p bs fresh local =
      ap (λ b. cond (p.local || is_bound b) None (entry site.set p.name)) fresh
      ∙ by_local p.local local
    where
      by_local : (b : Bool) → (b ≡ true → entry site.set p.name ≡ None) →
          cond (b || false) None (entry site.set p.name) ≡ entry site.set p.name
      by_local true h = sym (h refl)
      by_local false h = refl

  next_open : (a next : Declared) (item : ItemTree) (items : List ItemTree)
      → SetIsOpen a (item ∷ items)
      → ((n : List ℕ) (b : Binding) → entry a.bindings n ≡ Some b → entry next.bindings n ≡ Some b)
      → ((q : ParameterTree) → item ≡ parameter_item q
      → (b : Binding) × (entry next.bindings q.name ≡ Some b))
      → SetIsOpen next items
  next_open a next item items open_set kept here n v e = ⊎_elim
      (λ old. inl (old.0, kept n old.0 old.1))
      (λ q. ⊎_elim
      (λ is. let b = here q.0 is in
      inl (b.0, subst (λ z. entry next.bindings z ≡ Some b.0) q.3 b.1))
      (λ inside. inr (q.0, inside, q.2, q.3))
      (Contains-cases item items (parameter_item q.0) q.1))
      (open_set n v e)

  pub source_bindings : (items : List ItemTree) (a w : Declared) → Declares a w items
      → SetIsOpen a items
      → w.bindings ≡ bindings_after site.set a.bindings items
  source_bindings [] a w h open_set = ap (λ (x : Declared). x.bindings) (sym h)
  source_bindings (parameter_item p ∷ items) a w h open_set =
      let b = parameter (value_after a.bindings p) in
      source_bindings items (with_parameter a p) w h.1
      (next_open a (with_parameter a p) (parameter_item p) items open_set
      (λ n c e. entry_old a.bindings ((p.name, b) ∷ []) n c e)
      (λ q is. (
        b,
        subst (λ (z : ParameterTree).
            entry (with_parameter a p).bindings z.name ≡ Some b) (same_item p q is)
            (entry_new a.bindings p.name b h.0),
      )))
      ∙ ap (λ o. bindings_after site.set
      (a.bindings ++ (
        p.name,
        parameter (in_range (entry a.bindings) p.signed p.span
            (unwrap_or o (constant_of (entry a.bindings) p.value))),
      ) ∷ []) items)
      (override_is p a.bindings h.0 (no_local p items a w h.0 h.1 open_set))
  source_bindings (declared d ∷ items) a w h open_set =
      source_bindings items (with_signal a d) w h.2
      (next_open a (with_signal a d) (declared d) items open_set
      (λ n c e. entry_old a.bindings ((d.name, signal (width_after a d) d.signed) ∷ []) n c e)
      (λ q is. absurd (no_parameter d q is)))
  source_bindings (item ∷ items) a w h open_set =
      source_bindings items a w h (next_open a a item items open_set (λ n c e. e) (λ q is.
      absurd (cc is)))
      ∙ ap (λ bs. bindings_after site.set bs items) (sym (append-nil a.bindings))
