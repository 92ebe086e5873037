-- Wider limits in declarations, modules and texts, and what texts begin with.
use Rattle.std.proofs.Common.{ℕ, ◌-◌, ◌≤◌, max, Bool, true, false, List, [], ◌∷◌, ◌++◌, length}
use Rattle.std.proofs.Common.{Option, Some, None, refl, sym, subst, arith}
use Rattle.std.specs.Prelude.{IsTrue}
use Rattle.std.proofs.lemmas.List.{append_assoc, append-nil, length-append}
use Rattle.sv_token.specs.Lexemes.{Placed}
use Rattle.sv_ast.specs.declared.declarations.DeclKind.{DeclKind}
use Rattle.sv_ast.specs.declared.declarations.DeclKind.TheVariants as kinds
use Rattle.sv_ast.specs.Tree.{ExpressionTree, SpanTree, DeclarationTree, ParameterTree, MemoryTree}
use Rattle.sv_ast.specs.Tree.{NamedOverride, OverrideTrees, named_overrides, ordered_overrides}
use Rattle.sv_ast.specs.Tree.{NamedLink, LinkTrees, named_links, ordered_links, InstanceTree}
use Rattle.sv_ast.specs.Tree.{ItemTree, parameter_item, continuous, released, always_item}
use Rattle.sv_ast.specs.Tree.{invariant_item, ModuleTree, TextTree}
use Rattle.sv_ast.specs.GrammarForms.{Form}
use Rattle.sv_ast.specs.GrammarExpressions.{Limits, is_within}
use Rattle.sv_ast.specs.GrammarDeclarations.{IsValue, IsRange, IsTyped, equals, IsParameterType}
use Rattle.sv_ast.specs.GrammarDeclarations.{IsNamedParameter, IsParameter, IsLaterParameter}
use Rattle.sv_ast.specs.GrammarDeclarations.{AreParameters, AreHeaderParameters, IsPort, ArePorts}
use Rattle.sv_ast.specs.GrammarDeclarations.{IsSignalValue, IsNamedSignal, AreSignals, IsMemory}
use Rattle.sv_ast.specs.GrammarModules.{IsContinuous, IsReleased, IsAlways, IsInvariant}
use Rattle.sv_ast.specs.GrammarModules.{IsNamedOverride, AreOverrides, IsNamedLink, AreLinks}
use Rattle.sv_ast.specs.GrammarModules.{IsNamedInstance, AreInstances, all_as, IsItem, IsModule}
use Rattle.sv_ast.specs.GrammarModules.{IsText}
use Rattle.sv_ast.specs.GrammarRules.{no_limits, limit_of_levels, all_limits, TokensMean, BeginText}
use Rattle.sv_ast.proofs.GrammarWider.{Implies, same, both, either, under, in_perhaps, in_each}
use Rattle.sv_ast.proofs.GrammarWider.{in_some, in_listed, in_commas, in_only, IsWider}
use Rattle.sv_ast.proofs.GrammarWider.{wider_expression, wide_statement}

module _ {l k : Limits} (wider : IsWider l k) where
  wide_value : (e : ExpressionTree) → Implies (IsValue l e) (IsValue k e)
  wide_value e = wider_expression wider 0 e

  wide_range : (s : SpanTree) → Implies (IsRange l s) (IsRange k s)
  wide_range s =
      both (same _) (both (both (wide_value s.high) (both (same _) (wide_value s.low))) (same _))

  wide_typed : (d : DeclarationTree) → Implies (IsTyped l d) (IsTyped k d)
  wide_typed d = both (same _) (both (in_perhaps wide_range d.span) (same _))

  wide_equals : (e : ExpressionTree) → Implies (equals l e) (equals k e)
  wide_equals e = both (same _) (wide_value e)

  -- ---- parameters

  wide_parameter_type : (s : Bool) (r : Option SpanTree) →
      Implies (IsParameterType l s r) (IsParameterType k s r)
  wide_parameter_type s (Some r) = both (same _) (wide_range r)
  wide_parameter_type true None = same _
  wide_parameter_type false None = same _

  wide_named_parameter : (q : ParameterTree) → Implies (IsNamedParameter l q) (IsNamedParameter k q)
  wide_named_parameter q = both (same _) (wide_equals q.value)

  wide_parameter : (q : ParameterTree) → Implies (IsParameter l q) (IsParameter k q)
  wide_parameter q =
      both (same _) (both (wide_parameter_type q.signed q.span) (wide_named_parameter q))

  wide_later_parameter : (before q : ParameterTree) →
      Implies (IsLaterParameter l before q) (IsLaterParameter k before q)
  wide_later_parameter before q = under (wide_named_parameter q)

  wide_parameters : (qs : List ParameterTree) → Implies (AreParameters l qs) (AreParameters k qs)
  wide_parameters qs = in_listed wide_parameter wide_later_parameter qs

  wide_header_parameters : (qs : List ParameterTree) →
      Implies (AreHeaderParameters l qs) (AreHeaderParameters k qs)
  wide_header_parameters qs =
      in_listed (λ q. under (wide_parameter q)) (λ before q.
      either (under (wide_parameter q)) (wide_later_parameter before q)) qs

  -- ---- ports, signals, memories

  wide_port : (d : DeclarationTree) → Implies (IsPort l d) (IsPort k d)
  wide_port d = both (same _) (both (wide_typed d) (same _))

  wide_ports : (ds : List DeclarationTree) → Implies (ArePorts l ds) (ArePorts k ds)
  wide_ports ds = in_listed wide_port (λ before d. either (wide_port d) (same _)) ds

  wide_signal_value : (kind : DeclKind) (value : Option ExpressionTree) →
      Implies (IsSignalValue l kind value) (IsSignalValue k kind value)
  wide_signal_value kinds.Wire value = in_perhaps wide_equals value
  wide_signal_value _ value = same _

  wide_named_signal : (d : DeclarationTree) → Implies (IsNamedSignal l d) (IsNamedSignal k d)
  wide_named_signal d = both (same _) (wide_signal_value d.kind d.value)

  wide_signals : (ds : List DeclarationTree) → Implies (AreSignals l ds) (AreSignals k ds)
  wide_signals ds =
      in_listed (λ d. both (same _) (both (wide_typed d) (wide_named_signal d))) (λ before d.
      under (wide_named_signal d)) ds

  wide_memory : (m : MemoryTree) → Implies (IsMemory l m) (IsMemory k m)
  wide_memory m = both (same _) (both (same _) (both (in_perhaps wide_range m.span) (same _)))

  -- ---- items

  wide_continuous : (i : ItemTree) → Implies (IsContinuous l i) (IsContinuous k i)
  wide_continuous (continuous targets p e) = under (both (same _) (wide_equals e))
  wide_continuous (parameter_item q) = same _
  wide_continuous _ = same _

  wide_released : (i : ItemTree) → Implies (IsReleased l i) (IsReleased k i)
  wide_released (released t e p) =
      both (same _) (both (same _)
      (both (same _) (both (same _)
      (both (same _) (both (both (wide_value e) (same _)) (same _))))))
  wide_released _ = same _

  wide_always : (i : ItemTree) → Implies (IsAlways l i) (IsAlways k i)
  wide_always (always_item p c s) =
      both (same _) (both (same _) (both (same _) (wide_statement wider 0 s)))
  wide_always _ = same _

  wide_invariant : (i : ItemTree) → Implies (IsInvariant l i) (IsInvariant k i)
  wide_invariant (invariant_item p e) = under (both (same _) (wide_value e))
  wide_invariant _ = same _

  -- ---- instances

  wide_override : (o : NamedOverride) → Implies (IsNamedOverride l o) (IsNamedOverride k o)
  wide_override o =
      both (same _) (both (same _) (both (same _) (both (wide_value o.value) (same _))))

  wide_overrides : (os : OverrideTrees) → Implies (AreOverrides l os) (AreOverrides k os)
  wide_overrides (named_overrides os) =
      both (same _) (both (same _) (both (in_commas wide_override os) (same _)))
  wide_overrides (ordered_overrides []) = same _
  wide_overrides (ordered_overrides (e ∷ es)) =
      both (same _) (both (same _) (both (in_commas wide_value (e ∷ es)) (same _)))

  wide_link : (o : NamedLink) → Implies (IsNamedLink l o) (IsNamedLink k o)
  wide_link o =
      both (same _) (both (same _) (both (same _) (both (in_perhaps wide_value o.value) (same _))))

  wide_links : (ks : LinkTrees) → Implies (AreLinks l ks) (AreLinks k ks)
  wide_links (named_links ks) = in_commas wide_link ks
  wide_links (ordered_links []) = same _
  wide_links (ordered_links (e ∷ es)) = in_commas wide_value (e ∷ es)

  wide_named_instance : (i : InstanceTree) → Implies (IsNamedInstance l i) (IsNamedInstance k i)
  wide_named_instance i = both (same _) (both (same _) (both (wide_links i.links) (same _)))

  wide_instances : (is : List InstanceTree) → Implies (AreInstances l is) (AreInstances k is)
  wide_instances is =
      in_listed (λ i. both (same _) (both (wide_overrides i.overrides) (wide_named_instance i)))
      (λ before i. under (wide_named_instance i)) is

  -- ---- items, modules, texts

  wide_all_as : {A : Type 0} {as_item : A → ItemTree} {P Q : List A → Form}
      → ((xs : List A) → Implies (P xs) (Q xs)) → (items : List ItemTree)
      → Implies (all_as as_item P items) (all_as as_item Q items)
  wide_all_as f items ts rest is = (is.0, is.1, f is.0 ts rest is.2)

  wide_item : (items : List ItemTree) → Implies (IsItem l items) (IsItem k items)
  unfolding IsItem
  wide_item items =
      either (in_only wider wide_always items) (both
      (either (wide_all_as wide_parameters items)
      (either (wide_all_as wide_signals items)
      (either (wide_all_as (in_only wider wide_memory) items)
      (either (both (same _) (in_commas wide_continuous items))
      (either (in_only wider wide_released items)
      (either (in_only wider wide_invariant items)
      (wide_all_as wide_instances items)))))))
      (same _))

  wide_module : (m : ModuleTree) → Implies (IsModule l m) (IsModule k m)
  unfolding IsModule
  wide_module m =
      both (both (same _) (both (same _)
      (both (either (same _)
      (both (same _) (both (same _) (both (wide_header_parameters m.parameters) (same _)))))
      (both (either (same _) (both (same _) (both (wide_ports m.ports) (same _)))) (same _)))))
      (both (λ ts rest is. (is.0, is.1, in_each wide_item is.0 ts rest is.2)) (same _))

  -- a text that keeps within limits keeps within wider ones
  pub wide_text : (t : TextTree) (ts : List Placed) → IsText l t ts → IsText k t ts
  unfolding IsText
  wide_text t ts is = (is.0, is.1, (is.2.0, is.2.1, in_some wide_module t.modules is.2.0 [] is.2.2))

-- ---- what texts begin with

-- more tokens that were not read
fewer_read : (o : Option ℕ) (a b : ℕ) → a ≤ b → (x y : ℕ) → IsTrue (is_within o (x - max y a)) →
    IsTrue (is_within o (x - max y b))
fewer_read None a b more x y is = refl
fewer_read (Some m) a b more x y is = grind arith

unread_more : (l : Limits) (a b : ℕ) → a ≤ b →
    IsWider (record l { unread = a }) (record l { unread = b })
unread_more l a b more = record {
  levels = λ n is. is;
  tokens = λ ts rest is. fewer_read l.tokens a b more (length ts) (length rest) is;
  arms = λ n is. is;
}

-- a text that begins with tokens begins with the first of them
pub begins_with_first : (l : Limits) (ts us : List Placed) → BeginText l (ts ++ us) → BeginText l ts
unfolding BeginText
begins_with_first l ts us is =
    let (others, t, text) = is in
    let longer : length others ≤ length (us ++ others) =
    rw (length-append us others) (omega arith) in
    let behind : IsText (record l { unread = length others }) t (ts ++ (us ++ others)) =
    subst (IsText _ t) (append_assoc ts us others) text in (
      us ++ others,
      t,
      wide_text (unread_more l (length others) (length (us ++ others)) longer) t
          (ts ++ (us ++ others)) behind,
    )

-- what begins a text within limits begins one within wider ones
pub begins_within_wider : (l k : Limits)
    → ((n : ℕ) → IsWider (record l { unread = n }) (record k { unread = n })) → (ts : List Placed)
    → BeginText l ts → BeginText k ts
unfolding BeginText
begins_within_wider l k wider ts is =
    (is.0, is.1, wide_text (wider (length is.0)) is.1 (ts ++ is.0) is.2)

wider_of_levels : (n : ℕ) →
    IsWider (record all_limits { unread = n }) (record limit_of_levels { unread = n })
wider_of_levels n = record { levels = λ m is. is; tokens = λ ts rest is. refl; arms = λ m is. refl }

wider_of_none : (n : ℕ) →
    IsWider (record limit_of_levels { unread = n }) (record no_limits { unread = n })
wider_of_none n = record { levels = λ m is. refl; tokens = λ ts rest is. refl; arms = λ m is. refl }

pub within_levels : (ts : List Placed) → BeginText all_limits ts → BeginText limit_of_levels ts
within_levels ts is = begins_within_wider all_limits limit_of_levels wider_of_levels ts is

pub within_none : (ts : List Placed) → BeginText limit_of_levels ts → BeginText no_limits ts
within_none ts is = begins_within_wider limit_of_levels no_limits wider_of_none ts is

-- a text with a meaning begins with its tokens, and so breaks no rule at one of them
pub begins_with_meaning : (ts : List Placed) (t : TextTree) → TokensMean ts t →
    BeginText all_limits ts
unfolding BeginText
begins_with_meaning ts t is = ([], t, subst (IsText all_limits t) (sym (append-nil ts)) is)
