-- The names of a scope are those of the walk, as declarations are made.
use Rattle.std.proofs.Common.{◌≡◌, ℕ, ◌+◌, Bool, true, false, cond, List, [], ◌∷◌, ◌++◌}
use Rattle.std.proofs.Common.{map, Option, Some, None, refl, sym, ap, ◌∙◌, arith}
use Rattle.std.specs.Prelude.{option_map, is_some, unwrap_or, ◌||◌, if◌then◌else◌}
use Rattle.std.specs.List.{list_any}
use Rattle.std.specs.Str.{bytes_eq}
use Rattle.std.proofs.lemmas.List.{map_push}
use Rattle.std.proofs.lemmas.Slice.Eq.{bytes_eq-Decides}
use mathlib.Core.Path.{fun_ext}
use Rattle.sv_num.specs.declared.vectors.Bits.{Bits}
use Rattle.sv_token.specs.Bytes.{entry}
use Rattle.sv_ast.specs.Scopes.{Number, Binding, parameter, signal, Scope}
use Rattle.sv_ast.specs.Tree.{SpanTree, ParameterTree, ModuleTree}
use Rattle.sv_ast.specs.Instances.{all_items, span_width, in_range}
use Rattle.sv_elab_rules.specs.Names.{Names, is_bound, number_from, names_at, item_declares, names_of}
use Rattle.sv_elab_rules.specs.Declarations.{Site, override_of, range_steps}
use Rattle.sv_elab_rules.proofs.ConstantLemmas.{range_alike}
use Rattle.sv_width.specs.declared.meanings.KnownSignal.{KnownSignal}
use Rattle.sv_width.specs.declared.meanings.Meaning.{Meaning}
use Rattle.sv_width.specs.declared.meanings.Meaning.TheVariants as meaning
use Rattle.sv_width.specs.Scopes.{Known, number_of, binding_of, meaning_of, bindings_of, number_in}
use Rattle.sv_width.specs.Scopes.{signal_number, names_ahead, with_meaning}
use Rattle.sv_width.specs.Scopes as scopes
use Rattle.sv_elab_decl.specs.Ranges.{ranged}
use Rattle.sv_elab_decl.specs.Sites.{settings_of, bindings_in, signal_count, AreAnnounced}
use Rattle.sv_elab_decl.proofs.Entries.{entry_first, entry_map, entry_append, first_of_two}
use Rattle.sv_elab_decl.proofs.Entries.{first_of_none, none_parts}

-- ---- numbers behind some names

number_behind_parameter :
    (next : ℕ) (bs : List (List ℕ × Binding)) (n : List ℕ) (v : Number) (m : List ℕ)
    → number_from next (bs ++ (n, parameter v) ∷ []) m ≡ number_from next bs m
number_behind_parameter next [] n v m = refl
number_behind_parameter next ((k, parameter u) ∷ bs) n v m = number_behind_parameter next bs n v m
number_behind_parameter next ((k, signal w t) ∷ bs) n v m =
    ap (λ (r : ℕ). if bytes_eq m k then next else r) (number_behind_parameter (next + 1) bs n v m)

number_of_other : (next : ℕ) (bs : List (List ℕ × Binding)) (n : List ℕ) (w : ℕ) (t : Bool)
    (m : List ℕ)
    → bytes_eq m n ≡ false
    → number_from next (bs ++ (n, signal w t) ∷ []) m ≡ number_from next bs m
number_of_other next [] n w t m h = ap (λ (b : Bool). if b then next else 0) h
number_of_other next ((k, parameter u) ∷ bs) n w t m h = number_of_other next bs n w t m h
number_of_other next ((k, signal v s) ∷ bs) n w t m h =
    ap (λ (r : ℕ). if bytes_eq m k then next else r) (number_of_other (next + 1) bs n w t m h)

number_of_last : (next : ℕ) (bs : List (List ℕ × Binding)) (n : List ℕ) (w : ℕ) (t : Bool)
    (m : List ℕ)
    → entry bs m ≡ None → bytes_eq m n ≡ true
    → number_from next (bs ++ (n, signal w t) ∷ []) m ≡ next + signal_count bs
number_of_last next [] n w t m none h =
    let e : next ≡ next + 0 = omega arith in
    ap (λ (b : Bool). if b then next else 0) h ∙ e
number_of_last next ((k, parameter u) ∷ bs) n w t m none h =
    number_of_last next bs n w t m (none_parts (k, parameter u) bs m none).1 h
number_of_last next ((k, signal v s) ∷ bs) n w t m none h =
    let parts = none_parts (k, signal v s) bs m none in
    let e : next + 1 + signal_count bs ≡ next + (signal_count bs + 1) = omega arith in
    ap (λ (b : Bool). if b then next
    else number_from (next + 1) (bs ++ (n, signal w t) ∷ []) m) parts.0
    ∙ number_of_last (next + 1) bs n w t m parts.1 h ∙ e

count_last : (bs : List (List ℕ × Binding)) (n : List ℕ) (w : ℕ) (t : Bool)
    → signal_count (bs ++ (n, signal w t) ∷ []) ≡ signal_count bs + 1
count_last [] n w t = refl
count_last ((k, parameter u) ∷ bs) n w t = count_last bs n w t
count_last ((k, signal v s) ∷ bs) n w t = ap (λ (c : ℕ). c + 1) (count_last bs n w t)

count_parameter : (bs : List (List ℕ × Binding)) (n : List ℕ) (v : Number)
    → signal_count (bs ++ (n, parameter v) ∷ []) ≡ signal_count bs
count_parameter [] n v = refl
count_parameter ((k, parameter u) ∷ bs) n v = count_parameter bs n v
count_parameter ((k, signal w s) ∷ bs) n v = ap (λ (c : ℕ). c + 1) (count_parameter bs n v)

-- ---- names as wholes

same_names : (a b : Names) → ((n : List ℕ) → a.scope n ≡ b.scope n)
    → ((n : List ℕ) → a.number n ≡ b.number n) → ((n : List ℕ) → a.later n ≡ b.later n) → a ≡ b
same_names a b p q r =
    ap (λ s. record { scope = s; number = a.number; later = a.later }) (fun_ext p)
    ∙ ap (λ s. record { scope = b.scope; number = s; later = a.later }) (fun_ext q)
    ∙ ap (λ s. record { scope = b.scope; number = b.number; later = s }) (fun_ext r)

-- what a scope's list says of a name
pub bindings_are : (known : Known) (n : List ℕ) → entry (bindings_in known) n ≡ bindings_of known n
bindings_are known n = entry_map binding_of known.meanings n

pub bindings_same : (known : Known) → entry (bindings_in known) ≡ bindings_of known
bindings_same known = fun_ext (bindings_are known)

pub bindings_more : (known : Known) (n : List ℕ) (x : Meaning)
    → bindings_in (with_meaning known n x) ≡ bindings_in known ++ (n, binding_of x) ∷ []
bindings_more known n x =
    map_push (λ (m : List ℕ × Meaning). (m.0, binding_of m.1)) known.meanings (n, x)

-- at the first declaration
pub names_begin : (base : ℕ) (m : ModuleTree) (known : Known) → known.meanings ≡ []
    → ((n : List ℕ) → list_any (bytes_eq n) known.announced ≡
    list_any (item_declares n) (all_items m))
    → names_ahead known ≡ names_at base m (bindings_in known)
names_begin base m known none later =
    same_names (names_ahead known) (names_at base m (bindings_in known))
    (λ n. sym (bindings_are known n))
    (λ n. ap (λ (ms : List (List ℕ × Meaning)). signal_number (entry ms n)) none
    ∙ ap (λ (ms : List (List ℕ × Meaning)).
    number_from base (map (λ (m : List ℕ × Meaning). (m.0, binding_of m.1)) ms) n) (sym none))
    later

-- a range is asked by the names alone, not by the numbers of signals
pub range_there : (base : ℕ) (m : ModuleTree) (known : Known) (bs : List (List ℕ × Binding))
    → AreAnnounced m known → bs ≡ bindings_in known
    → (span : Option SpanTree)
    → range_steps (names_ahead known) span ≡ range_steps (names_at base m bs) span
range_there base m known bs announced same span =
    let later : List ℕ → Bool = λ n. list_any (bytes_eq n) known.announced in
    range_alike (bindings_of known) later (number_in known) (number_from base bs) span
    ∙ ap (λ (l : List ℕ → Bool). range_steps
    (record { scope = bindings_of known; number = number_from base bs; later = l }) span)
    (fun_ext announced)
    ∙ ap (λ (s : Scope). range_steps (record {
      scope = s;
      number = number_from base bs;
      later = λ n. list_any (item_declares n) (all_items m);
    }) span)
    (sym (ap entry same ∙ bindings_same known))

module _ (base : ℕ) (m : ModuleTree) (known : Known)
    (so_far : names_ahead known ≡ names_at base m (bindings_in known)) (n : List ℕ) where
  number_so_far : (j : List ℕ) → number_in known j ≡ number_from base (bindings_in known) j
  number_so_far j = ap (λ (names : Names). names.number j) so_far

  later_so_far : (j : List ℕ)
      → list_any (bytes_eq j) known.announced ≡ list_any (item_declares j) (all_items m)
  later_so_far j = ap (λ (names : Names). names.later j) so_far

  with_names : (x : Meaning)
      → ((j : List ℕ) → number_in (with_meaning known n x) j
      ≡ number_from base (bindings_in known ++ (n, binding_of x) ∷ []) j)
      → names_ahead (with_meaning known n x) ≡
      names_at base m (bindings_in (with_meaning known n x))
  with_names x numbers =
      same_names (names_ahead (with_meaning known n x))
      (names_at base m (bindings_in (with_meaning known n x)))
      (λ j. sym (bindings_are (with_meaning known n x) j))
      (λ j. numbers j
      ∙ ap (λ (bs : List (List ℕ × Binding)).
      number_from base bs j) (sym (bindings_more known n x)))
      later_so_far

  -- a parameter more
  pub names_parameter : (v : Bits)
      → names_ahead (with_meaning known n (meaning.Param v))
      ≡ names_at base m (bindings_in (with_meaning known n (meaning.Param v)))
  names_parameter v =
      with_names (meaning.Param v)
      (λ j. ap (λ (r : Option Meaning).
      signal_number r) (entry_append known.meanings ((n, meaning.Param v) ∷ []) j)
      ∙ by (entry known.meanings j) j
      ∙ number_so_far j
      ∙ sym (number_behind_parameter base (bindings_in known) n (number_of v) j))
    where
      one : (b : Bool) → signal_number (cond b (Some (meaning.Param v)) None) ≡ 0
      one true = refl
      one false = refl

      by : (r : Option Meaning) (j : List ℕ)
          → signal_number (first_of_two r (entry ((n, meaning.Param v) ∷ []) j)) ≡ signal_number r
      by (Some x) j = refl
      by None j =
          ap (λ (r : Option Meaning). signal_number r) (entry_first (n, meaning.Param v) [] j)
          ∙ one (bytes_eq j n)

  -- a signal more, with the next number
  pub names_signal : (s : KnownSignal) → meaning_of known n ≡ None
      → s.signal.0 ≡ base + signal_count (bindings_in known)
      → names_ahead (with_meaning known n (meaning.Signal s))
      ≡ names_at base m (bindings_in (with_meaning known n (meaning.Signal s)))
  names_signal s new number = with_names (meaning.Signal s) (λ j. by j (bytes_eq j n) refl)
    where
      x : Meaning
      x = meaning.Signal s

      by : (j : List ℕ) (b : Bool) → bytes_eq j n ≡ b
          → number_in (with_meaning known n (meaning.Signal s)) j
          ≡ number_from base (bindings_in known ++ (n, signal s.width s.signed) ∷ []) j
      by j true h =
          let same : j ≡ n = (bytes_eq-Decides j n).0 h in
          let none : entry known.meanings j ≡ None =
          ap (λ (k : List ℕ). entry known.meanings k) same ∙ new in
          let unbound : entry (bindings_in known) j ≡ None =
          bindings_are known j ∙ ap (λ (r : Option Meaning). option_map binding_of r) none in
          ap (λ (r : Option Meaning). signal_number r)
          (entry_append known.meanings ((n, meaning.Signal s) ∷ []) j
          ∙ ap (λ (r : Option Meaning). first_of_two r (entry ((n, meaning.Signal s) ∷ []) j)) none
          ∙ entry_first (n, meaning.Signal s) [] j
          ∙ ap (λ (b : Bool). cond b (Some (meaning.Signal s)) None) h)
          ∙ number
          ∙ sym (number_of_last base (bindings_in known) n s.width s.signed j unbound h)
      by j false h =
          ap (λ (r : Option Meaning). signal_number r)
          (entry_append known.meanings ((n, meaning.Signal s) ∷ []) j
          ∙ ap (λ (r : Option Meaning). first_of_two (entry known.meanings j) r)
          (entry_first (n, meaning.Signal s) [] j
          ∙ ap (λ (b : Bool). cond b (Some (meaning.Signal s)) None) h)
          ∙ first_of_none (entry known.meanings j))
          ∙ number_so_far j
          ∙ sym (number_of_other base (bindings_in known) n s.width s.signed j h)

-- where all declarations are made
pub names_finish : (base : ℕ) (m : ModuleTree) (known : Known)
    → names_ahead known ≡ names_at base m (bindings_in known)
    → scopes.names_of known ≡ names_of base (bindings_in known)
names_finish base m known so_far =
    ap (λ (names : Names).
    record { scope = names.scope; number = names.number; later = λ (n : List ℕ). false }) so_far

pub count_with_parameter : (known : Known) (n : List ℕ) (v : Bits)
    → signal_count (bindings_in (with_meaning known n (meaning.Param v))) ≡
    signal_count (bindings_in known)
count_with_parameter known n v =
    ap signal_count (bindings_more known n (meaning.Param v))
    ∙ count_parameter (bindings_in known) n (number_of v)

pub count_with_signal : (known : Known) (n : List ℕ) (s : KnownSignal)
    → signal_count (bindings_in (with_meaning known n (meaning.Signal s)))
    ≡ signal_count (bindings_in known) + 1
count_with_signal known n s =
    ap signal_count (bindings_more known n (meaning.Signal s))
    ∙ count_last (bindings_in known) n s.width s.signed

-- whether the name stands for something
pub bound_is : (known : Known) (n : List ℕ)
    → is_bound (entry (bindings_in known) n) ≡ is_some (meaning_of known n)
bound_is known n =
    ap (λ (b : Option Binding). is_bound b) (bindings_are known n) ∙ by (meaning_of known n)
  where
    by : (r : Option Meaning) → is_bound (option_map binding_of r) ≡ is_some r
    by (Some x) = refl
    by None = refl

-- ---- values by name

pub settings_are : (values : List (List ℕ × Bits)) (n : List ℕ)
    → entry (settings_of values) n ≡ option_map number_of (entry values n)
settings_are values n = entry_map number_of values n

pub no_override : (site : Site) (bs : List (List ℕ × Binding)) (p : ParameterTree)
    → (p.local || is_bound (entry bs p.name)) ≡ true → None ≡ override_of site bs p
no_override site bs p h = ap (λ (b : Bool). if b then None else entry site.set p.name) (sym h)

pub some_override : (site : Site) (bs : List (List ℕ × Binding)) (p : ParameterTree)
    → (p.local || is_bound (entry bs p.name)) ≡ false
    → entry site.set p.name ≡ override_of site bs p
some_override site bs p h = ap (λ (b : Bool). if b then None else entry site.set p.name) (sym h)

-- a value at the width that its range gives
pub ranged_is : (scope : Scope) (signed : Bool) (span : Option SpanTree) (width : Option ℕ)
    (n : Number)
    → width ≡ option_map (λ s. span_width scope (Some s)) span
    → ranged signed width n ≡ in_range scope signed span n
ranged_is scope signed None width n h = ap (λ (w : Option ℕ). ranged signed w n) h
ranged_is scope signed (Some span) width n h = ap (λ (w : Option ℕ). ranged signed w n) h

-- the width that a signal without a range has
pub width_is : (scope : Scope) (span : Option SpanTree) (width : Option ℕ)
    → width ≡ option_map (λ s. span_width scope (Some s)) span
    → unwrap_or width 1 ≡ span_width scope span
width_is scope None width h = ap (λ (w : Option ℕ). unwrap_or w 1) h
width_is scope (Some span) width h = ap (λ (w : Option ℕ). unwrap_or w 1) h
