-- Instances that set the same declare the same, whatever stands around them.
use Rattle.std.proofs.Common.{◌≡◌, ℕ, ◌+◌, Bool, true, List, [], ◌∷◌, ◌++◌, length, Option, Some}
use Rattle.std.proofs.Common.{None, refl, sym, ap, ◌∙◌, arith}
use Rattle.std.specs.Prelude.{Result, Ok, Err, not, ◌||◌, nat_lt, is_some, map, if◌then◌else◌}
use Rattle.std.specs.List.{filter_map, list_any}
use Rattle.std.specs.Str.{bytes_eq}
use Rattle.std.proofs.lemmas.List.{length_push}
use mathlib.Core.Path.{fun_ext}
use Rattle.sv_ast.specs.Scopes.{Number, Binding, parameter, signal}
use Rattle.sv_ast.specs.Tree.{ParameterTree, DeclarationTree, ItemTree, parameter_item, declared}
use Rattle.sv_ast.specs.Tree.{memory_item, continuous, released, always_item, invariant_item}
use Rattle.sv_ast.specs.Tree.{instance_item, ModuleTree}
use Rattle.sv_ast.specs.Instances.{entry, in_range, span_width}
use Rattle.sv_ast.specs.Parts.{declaration_of}
use Rattle.sv_elab_rules.specs.Walks.{WalkStep, Walk, ask, done, ◌>>=◌}
use Rattle.sv_elab_rules.specs.Rules.{twice, too_many}
use Rattle.sv_elab_rules.specs.Names.{Names, is_bound, names_at}
use Rattle.sv_elab_rules.specs.Declarations.{Site, Declared, range_steps, override_of, final_walk}
use Rattle.sv_elab_rules.specs.Declarations.{parameter_walk, declared_signal, signal_ahead, signal_walk}
use Rattle.sv_elab_rules.specs.Declarations.{declaration_walk, declarations_walk, declaration_ahead}
use Rattle.sv_elab_rules.specs.Declarations.{declared_until}
use Rattle.sv_elab_rules.proofs.WalkLemmas.{parts_done}
use Rattle.sv_elab_rules.proofs.DeclarationLemmas.{signal_within, until_next, until_stops}
use Rattle.sv_width.specs.Scopes.{Known, meaning_of}
use Rattle.sv_elab_decl.specs.Sites.{SameSite, bindings_in}
use Rattle.sv_elab_decl.proofs.Entries.{entry_there}
use Rattle.sv_elab_decl.proofs.NameLemmas.{bound_is}

module _ (base least : ℕ) (s t : Site) (same : SameSite s t) where
  parameter_same : (d : Declared) (p : ParameterTree) →
      parameter_walk base s d p ≡ parameter_walk base t d p
  unfolding parameter_walk
  parameter_same d p =
      let with : ModuleTree → Option Number → Walk Declared = λ m set.
      let names = names_at base m d.bindings in
      range_steps names p.span >>= λ _. final_walk names set p.value >>= λ final.
      ask (not (is_bound (entry d.bindings p.name))) (twice p.place p.name) >>= λ _.
      done (record {
        bindings =
            d.bindings ++ (p.name, parameter (in_range names.scope p.signed p.span final)) ∷ [];
        signals = d.signals;
      }) in
      ap (λ (m : ModuleTree). with m (override_of s d.bindings p)) same.master
      ∙ ap (λ (r : Option Number).
      with t.master (if p.local || is_bound (entry d.bindings p.name) then None else r))
      (same.set p.name)

  ahead_same : (d : Declared) (p : DeclarationTree) →
      signal_ahead base least s d p ≡ signal_ahead base least t d p
  unfolding signal_ahead
  ahead_same d p =
      let with : ModuleTree → List (List ℕ) → Walk Declared = λ m path.
      let names = names_at base m d.bindings in
      range_steps names p.span >>= λ _.
      ask (not (is_bound (entry d.bindings p.name))) (twice p.place p.name) >>= λ _.
      done (record {
        bindings = d.bindings ++ (p.name, signal (span_width names.scope p.span) p.signed) ∷ [];
        signals = d.signals ++ declared_signal
            (record { path = path; around = s.around; master = s.master; set = s.set })
            (span_width names.scope p.span) least p ∷ [];
      }) in
      ap (λ (m : ModuleTree). with m s.path) same.master
      ∙ ap (λ (path : List (List ℕ)). with t.master path) same.path

  signal_same : (d : Declared) (p : DeclarationTree) →
      signal_walk base least s d p ≡ signal_walk base least t d p
  unfolding signal_walk
  signal_same d p =
      ap (λ (w : Walk Declared). w >>= λ next.
      ask (nat_lt (base + length d.signals) 4096) (too_many p.place) >>= λ _. done next)
      (ahead_same d p)

  item_same : (d : Declared) (i : ItemTree) →
      declaration_walk base least s d i ≡ declaration_walk base least t d i
  unfolding declaration_walk
  item_same d (parameter_item p) = parameter_same d p
  item_same d (declared p) = signal_same d p
  item_same d (memory_item m) = refl
  item_same d (continuous ts p e) = refl
  item_same d (released a e b) = refl
  item_same d (always_item p k b) = refl
  item_same d (invariant_item p e) = refl
  item_same d (instance_item i) = refl

  pub same_walk : (d : Declared) (items : List ItemTree)
      → declarations_walk base least s d items ≡ declarations_walk base least t d items
  unfolding declarations_walk
  same_walk d [] = refl
  same_walk d (i ∷ items) =
      ap (λ (w : Walk Declared). w >>= λ next. declarations_walk base least s next items)
      (item_same d i)
      ∙ ap (λ (more : Declared → Walk Declared). declaration_walk base least t d i >>= more)
      (fun_ext (λ next. same_walk next items))

  item_ahead_same : (d : Declared) (i : ItemTree) →
      declaration_ahead base least s d i ≡ declaration_ahead base least t d i
  unfolding declaration_ahead
  item_ahead_same d (parameter_item p) = parameter_same d p
  item_ahead_same d (declared p) = ahead_same d p
  item_ahead_same d (memory_item m) = refl
  item_ahead_same d (continuous ts p e) = refl
  item_ahead_same d (released a e b) = refl
  item_ahead_same d (always_item p k b) = refl
  item_ahead_same d (invariant_item p e) = refl
  item_ahead_same d (instance_item i) = refl

  pub same_until : (d : Declared) (items : List ItemTree)
      → declared_until base least s d items ≡ declared_until base least t d items
  unfolding declared_until
  same_until d [] = refl
  same_until d (i ∷ items) =
      by (declaration_ahead base least t d i).end refl (λ x. same_until x items)
    where
      by : (r : Result Declared WalkStep) → (declaration_ahead base least t d i).end ≡ r
          → ((x : Declared) → declared_until base least s x items ≡
          declared_until base least t x items)
          → declared_until base least s d (i ∷ items) ≡ declared_until base least t d (i ∷ items)
      by (Ok x) e rest =
          until_next base least s d x i items
          (ap (λ (w : Walk Declared). w.end) (item_ahead_same d i) ∙ e)
          ∙ rest x ∙ sym (until_next base least t d x i items e)
      by (Err u) e rest =
          until_stops base least s d i items u
          (ap (λ (w : Walk Declared). w.end) (item_ahead_same d i) ∙ e)
          ∙ sym (until_stops base least t d i items u e)

-- ---- how many signals are declared

module _ (base least : ℕ) (s : Site) where
  parameter_signals : (d next : Declared) (p : ParameterTree)
      → (parameter_walk base s d p).end ≡ Ok next
      → next.signals ≡ d.signals
  unfolding parameter_walk
  parameter_signals d next p h =
      let names = names_at base s.master d.bindings in
      let made : Number → Declared = λ final. record {
        bindings =
            d.bindings ++ (p.name, parameter (in_range names.scope p.signed p.span final)) ∷ [];
        signals = d.signals;
      } in
      let new = ask (not (is_bound (entry d.bindings p.name))) (twice p.place p.name) in
      let a = parts_done (range_steps names p.span)
      (λ _. final_walk names (override_of s d.bindings p) p.value >>= λ final.
      new >>= λ _. done (made final)) next h in
      let b = parts_done (final_walk names (override_of s d.bindings p) p.value)
      (λ final. new >>= λ _. done (made final)) next a.2 in
      let c = parts_done new (λ _. done (made b.0)) next b.2 in
      let same : made b.0 ≡ next = cc c.2 in
      ap (λ (x : Declared). x.signals) (sym same)

  ahead_signals : (d next : Declared) (p : DeclarationTree)
      → (signal_ahead base least s d p).end ≡ Ok next
      → length next.signals ≡ length d.signals + 1
  unfolding signal_ahead
  ahead_signals d next p h =
      let names = names_at base s.master d.bindings in
      let form = declared_signal s (span_width names.scope p.span) least p in
      let made : Declared = record {
        bindings = d.bindings ++ (p.name, signal (span_width names.scope p.span) p.signed) ∷ [];
        signals = d.signals ++ form ∷ [];
      } in
      let new = ask (not (is_bound (entry d.bindings p.name))) (twice p.place p.name) in
      let a = parts_done (range_steps names p.span) (λ _. new >>= λ _. done made) next h in
      let b = parts_done new (λ _. done made) next a.2 in
      let same : made ≡ next = cc b.2 in
      ap (λ (x : Declared). length x.signals) (sym same) ∙ length_push d.signals form

  pub signal_signals : (d next : Declared) (p : DeclarationTree)
      → (signal_walk base least s d p).end ≡ Ok next
      → length next.signals ≡ length d.signals + 1
  signal_signals d next p h = ahead_signals d next p (signal_within base least s d next p h).0

  kept_signals : (d next : Declared) (is : List ItemTree) (n : ℕ) → (done d).end ≡ Ok next
      → n ≡ length next.signals + length (filter_map declaration_of is)
      → n ≡ length d.signals + length (filter_map declaration_of is)
  kept_signals d next is n h k =
      let same : d ≡ next = cc h in
      k ∙ ap (λ (x : Declared). length x.signals + length (filter_map declaration_of is)) (sym same)

  item_signals : (d next : Declared) (i : ItemTree) (is : List ItemTree) (n : ℕ)
      → (declaration_walk base least s d i).end ≡ Ok next
      → n ≡ length next.signals + length (filter_map declaration_of is)
      → n ≡ length d.signals + length (filter_map declaration_of (i ∷ is))
  unfolding declaration_walk
  item_signals d next (parameter_item p) is n h k =
      k ∙ ap (λ xs. length xs + length (filter_map declaration_of is))
      (parameter_signals d next p h)
  item_signals d next (declared p) is n h k =
      let e = signal_signals d next p h in omega (arith, e, k)
  item_signals d next (memory_item m) is n h k = kept_signals d next is n h k
  item_signals d next (continuous ts p e) is n h k = kept_signals d next is n h k
  item_signals d next (released a e b) is n h k = kept_signals d next is n h k
  item_signals d next (always_item p c b) is n h k = kept_signals d next is n h k
  item_signals d next (invariant_item p e) is n h k = kept_signals d next is n h k
  item_signals d next (instance_item i) is n h k = kept_signals d next is n h k

  -- each declaration is one signal
  pub all_declared : (items : List ItemTree) (d w : Declared)
      → (declarations_walk base least s d items).end ≡ Ok w
      → length w.signals ≡ length d.signals + length (filter_map declaration_of items)
  unfolding declarations_walk
  all_declared [] d w h =
      let same : d ≡ w = cc h in
      let e : length d.signals ≡ length d.signals + 0 = omega arith in
      ap (λ (x : Declared). length x.signals) (sym same) ∙ e
  all_declared (i ∷ items) d w h =
      let a = parts_done (declaration_walk base least s d i) (λ next.
      declarations_walk base least s next items) w h in
      item_signals d a.0 i items (length w.signals) a.1 (all_declared items a.0 w a.2)

-- ---- names taken

pub is_taken : (known : Known) (n : List ℕ)
    → is_some (meaning_of known n) ≡
    list_any (bytes_eq n) (map (λ (b : List ℕ × Binding). b.0) (bindings_in known))
is_taken known n =
    sym (bound_is known n) ∙ by (entry (bindings_in known) n) ∙ entry_there (bindings_in known) n
  where
    by : (r : Option Binding) → is_bound r ≡ is_some r
    by (Some b) = refl
    by None = refl
