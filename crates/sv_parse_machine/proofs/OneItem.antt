-- Items determine their trees.
use Rattle.std.proofs.Common.{◌≡◌, ℕ, Bool, true, false, List, [], ◌∷◌, map, flat_map, Option, Some}
use Rattle.std.proofs.Common.{None, inl, inr, refl, sym, ap, ◌∙◌, arith}
use Rattle.std.proofs.lemmas.Bool.{false≢true}
use Rattle.sv_num.specs.declared.operators.BinOp.TheVariants.{Mul}
use Rattle.sv_token.specs.declared.keywords.WordKind.TheVariants as words
use Rattle.sv_token.specs.declared.signs.SignKind.TheVariants as signs
use Rattle.sv_token.specs.Lexemes.{Lexeme, word, identifier, Placed}
use Rattle.sv_ast.specs.declared.declarations.DeclKind.{DeclKind}
use Rattle.sv_ast.specs.declared.declarations.DeclKind.TheVariants as kinds
use Rattle.sv_ast.specs.Tree.{TargetTree, DeclarationTree, MemoryTree, PlacedName, ItemTree}
use Rattle.sv_ast.specs.Tree.{parameter_item, declared, memory_item, continuous, released}
use Rattle.sv_ast.specs.Tree.{always_item, invariant_item, instance_item}
use Rattle.sv_ast.specs.GrammarForms.{Form, ◌⨾◌, a_word, a_sign, somewhere, binary_at}
use Rattle.sv_ast.specs.GrammarForms.{in_parentheses}
use Rattle.sv_ast.specs.GrammarExpressions.{Limits}
use Rattle.sv_ast.specs.GrammarStatements.{AreTargets, only}
use Rattle.sv_ast.specs.GrammarDeclarations.{parameter_word, AreParameters, IsSignalKind}
use Rattle.sv_ast.specs.GrammarDeclarations.{AreSignals, IsMemory}
use Rattle.sv_ast.specs.GrammarModules.{IsPlacedName, IsWholeTarget, IsContinuous, AreContinuous}
use Rattle.sv_ast.specs.GrammarModules.{IsReleased, IsEvent, IsAlways, place_of, IsInvariant}
use Rattle.sv_ast.specs.GrammarModules.{AreInstances, all_as, IsListedItem, IsItem, AreItems}
use Rattle.sv_parse_machine.proofs.OneForm.{Behind, Anything, AreOne, AreApart, Leads, one_as}
use Rattle.sv_parse_machine.proofs.OneForm.{one_anywhere, one_where, one_apart, one_turned, apart_turned}
use Rattle.sv_parse_machine.proofs.OneForm.{one_then, apart_then, apart_first, leads_first, one_this}
use Rattle.sv_parse_machine.proofs.OneForm.{one_word, one_mark, one_placed, sign_behind, word_behind}
use Rattle.sv_parse_machine.proofs.OneForm.{leads_sign, leads_word, leads_this, leads_name, before_sign}
use Rattle.sv_parse_machine.proofs.OneForm.{around_sign, then_sign, FirstIs, HasClass, one_class}
use Rattle.sv_parse_machine.proofs.OneForm.{classes_apart, Refuses, apart_from, one_never, leads_never}
use Rattle.sv_parse_machine.proofs.OneForm.{apart_given, apart_or, apart_prefix, leads_given, leads_or}
use Rattle.sv_parse_machine.proofs.OneForm.{one_given, one_of_either, one_or}
use Rattle.sv_parse_machine.proofs.OneList.{one_each, ListEnds, list_ends, one_commas, leads_listed}
use Rattle.sv_parse_machine.proofs.OneType.{ExpressionEnds, one_value, begins_expression, leads_value}
use Rattle.sv_parse_machine.proofs.OneType.{NameIs}
use Rattle.sv_parse_machine.proofs.OneParameter.{one_equals, one_parameters}
use Rattle.sv_parse_machine.proofs.OneDeclaration.{one_signals, one_memory, one_of_signals}
use Rattle.sv_parse_machine.proofs.OneTarget.{one_only, leads_only, one_targets, begin_same, OperatorIs}
use Rattle.sv_parse_machine.proofs.OneTarget.{one_operator, leads_operator}
use Rattle.sv_parse_machine.proofs.OneStatement.{one_statement}
use Rattle.sv_parse_machine.proofs.OneInstance.{one_instances, leads_instances}

pub one_placed_name : (x y : PlacedName) → AreOne Anything (x ≡ y) (IsPlacedName x) (IsPlacedName y)
one_placed_name x y =
    one_as (λ both i. record { name = both.0 i; place = both.1 i })
    (one_placed x.name y.name x.place y.place)

-- ---- `assign`

one_whole_target : (t u : TargetTree) → AreOne Anything (t ≡ u) (IsWholeTarget t) (IsWholeTarget u)
one_whole_target t u = one_given (λ all all_too.
    one_as (λ both i. record {
      name = both.0 i;
      place = both.1 i;
      selection = (all ∙ sym all_too) i;
    }) (one_placed t.name u.name t.place u.place))

leads_whole_target : {D : Behind} (t : TargetTree) → Leads NameIs D (IsWholeTarget t)
leads_whole_target t = leads_given (leads_name t.name t.place (λ p rest. refl))

one_continuous : (l : Limits) (a b : ItemTree) →
    AreOne ExpressionEnds (a ≡ b) (IsContinuous l a) (IsContinuous l b)
one_continuous l (continuous ts p e) (continuous us q f) = one_given (λ at at_too.
    one_as (λ both i. continuous (both.0 i) (begin_same p q ts us at at_too both.0 i) (both.1 i))
    (one_then (one_targets one_whole_target leads_whole_target (λ p rest. tt) (λ ts ends. tt) ts us)
    (λ targets. one_equals l e f)))
one_continuous l (continuous ts p e) b = one_turned one_never
one_continuous l a b = one_never

one_all_continuous : (l : Limits) (xs ys : List ItemTree) →
    AreOne ListEnds (xs ≡ ys) (AreContinuous l xs) (AreContinuous l ys)
one_all_continuous l xs ys =
    word_behind words.Assign (one_commas (one_continuous l) (λ p rest. refl) list_ends xs ys)

one_released : (l : Limits) (a b : ItemTree) →
    AreOne Anything (a ≡ b) (IsReleased l a) (IsReleased l b)
one_released l (released t e x) (released u f y) =
    one_as (λ both i. released (both.0 i) (both.1.0 i) (both.1.1 i))
    (word_behind words.Assign (one_then (one_placed_name t u)
    (λ target. sign_behind signs.Equals
    (word_behind words.Release (sign_behind signs.OpenParenthesis
    (then_sign signs.CloseParenthesis
    (around_sign signs.Comma (one_value l 0 e f) (λ p rest. refl) (one_placed_name x y))))))))
one_released l (released t e x) b = one_turned one_never
one_released l a b = one_never

-- a whole target alone is a name; several are none
targets_or_name : (ts : List TargetTree) (x : PlacedName) →
    AreOne Anything (Unit {0}) (AreTargets IsWholeTarget ts) (IsPlacedName x)
targets_or_name ts x =
    one_of_either (only_or_name ts)
    (one_apart (apart_from {D = NameIs}
    (leads_first (leads_sign signs.OpenBrace (λ p rest. false≢true)))
    (leads_name x.name x.place (λ p rest. refl))))
  where
    only_or_name : (ts : List TargetTree) →
        AreOne Anything (Unit {0}) (only IsWholeTarget ts) (IsPlacedName x)
    only_or_name [] = one_never
    only_or_name (t ∷ u ∷ ts) = one_never
    only_or_name (t ∷ []) = record {
      one = λ ts r s is is_too ends ends_too.
          let same = one_placed t.name x.name t.place x.place in
          (tt, (same.one ts r s is.1 is_too tt tt).1);
    }

continuous_or_released : (l : Limits) (a : ItemTree) (x : PlacedName) (P : Form)
    → AreApart (IsContinuous l a) (IsPlacedName x ⨾ a_sign signs.Equals ⨾ a_word words.Release ⨾ P)
continuous_or_released l (continuous ts p e) x P =
    apart_given (λ at. apart_then (targets_or_name ts x) (λ same.
    apart_then (one_mark signs.Equals) (λ equal.
    apart_turned (apart_from {D = FirstIs begins_expression}
    (leads_first (leads_word words.Release (λ p rest. false≢true))) (leads_value l 0 e)))))
continuous_or_released l a x P = record { apart = λ ts r s is is_too. is }

assigned_or_released : (l : Limits) (xs ys : List ItemTree) →
    AreApart (AreContinuous l xs) (only (IsReleased l) ys)
assigned_or_released l [] ys = record { apart = λ ts r s is is_too. is.2 }
assigned_or_released l (a ∷ xs) ((released x e y) ∷ []) =
    apart_then (one_word words.Assign) (λ assign. apart_prefix (continuous_or_released l a x _))
assigned_or_released l (a ∷ xs) [] = record { apart = λ ts r s is is_too. is_too }
assigned_or_released l (a ∷ xs) (b ∷ c ∷ ys) = record { apart = λ ts r s is is_too. is_too }
assigned_or_released l (a ∷ xs) (b ∷ []) = record { apart = λ ts r s is is_too. is_too }

-- ---- `always` and `invariant`

star_or_edge : (x : PlacedName) → AreApart (IsEvent None) (IsEvent (Some x))
star_or_edge x = apart_turned (apart_or
    (apart_from {D = OperatorIs}
    (leads_first (leads_sign signs.OpenParenthesis (λ p rest. false≢true)))
    (leads_operator Mul (λ o p rest. refl)))
    (apart_then (one_mark signs.OpenParenthesis) (λ opened. apart_first
    (apart_from {D = OperatorIs} (leads_first (leads_word words.Posedge (λ p rest. false≢true)))
    (leads_operator Mul (λ o p rest. refl))))))

one_event : (x y : Option PlacedName) → AreOne Anything (x ≡ y) (IsEvent x) (IsEvent y)
one_event None None =
    one_as (λ same. refl)
    (one_or (one_operator Mul) (one_apart bare) (one_apart (apart_turned bare))
    (sign_behind signs.OpenParenthesis (then_sign signs.CloseParenthesis (one_operator Mul))))
  where
    bare : AreApart (somewhere (binary_at Mul)) (in_parentheses (somewhere (binary_at Mul)))
    bare =
        apart_turned (apart_from {D = OperatorIs}
        (leads_first (leads_sign signs.OpenParenthesis (λ p rest. false≢true)))
        (leads_operator Mul (λ o p rest. refl)))
one_event None (Some y) = one_apart (star_or_edge y)
one_event (Some x) None = one_apart (apart_turned (star_or_edge x))
one_event (Some x) (Some y) =
    one_as (λ same. ap Some same) (sign_behind signs.OpenParenthesis
    (then_sign signs.CloseParenthesis (word_behind words.Posedge (one_placed_name x y))))

one_always : (l : Limits) (a b : ItemTree) → AreOne Anything (a ≡ b) (IsAlways l a) (IsAlways l b)
one_always l (always_item p x s) (always_item q y t) =
    one_as (λ both i. always_item (both.0 i) (both.1.0 i) (both.1.1 i))
    (one_then (one_this (word words.Always) p q) (λ at.
    sign_behind signs.At (one_then (one_event x y) (λ event. one_statement l s 0 t))))
one_always l (always_item p x s) b = one_turned one_never
one_always l a b = one_never

one_invariant : (l : Limits) (a b : ItemTree) →
    AreOne ExpressionEnds (a ≡ b) (IsInvariant l a) (IsInvariant l b)
one_invariant l (invariant_item p e) (invariant_item q f) = one_given (λ at at_too.
    one_as (λ same i. invariant_item ((at ∙ ap place_of same ∙ sym at_too) i) (same i))
    (word_behind words.Invariant (one_value l 0 e f)))
one_invariant l (invariant_item p e) b = one_turned one_never
one_invariant l a b = one_never

-- ---- kinds of items

data ItemKind : Type 0 where
  parameters : ItemKind
  signals : ItemKind
  memories : ItemKind
  assigns : ItemKind
  releases : ItemKind
  invariants : ItemKind
  instances : ItemKind

-- what stands up to a `;`
abbrev of_kind : Limits → ItemKind → List ItemTree → Form
of_kind l parameters = all_as parameter_item (AreParameters l)
of_kind l signals = all_as declared (AreSignals l)
of_kind l memories = all_as memory_item (only (IsMemory l))
of_kind l assigns = AreContinuous l
of_kind l releases = only (IsReleased l)
of_kind l invariants = only (IsInvariant l)
of_kind l instances = all_as instance_item (AreInstances l)

some_kind : (l : Limits) (xs : List ItemTree) (ts r : List Placed) → IsListedItem l xs ts r →
    (k : ItemKind) × of_kind l k xs ts r
some_kind l xs ts r (inl is) = (parameters, is)
some_kind l xs ts r (inr (inl is)) = (signals, is)
some_kind l xs ts r (inr (inr (inl is))) = (memories, is)
some_kind l xs ts r (inr (inr (inr (inl is)))) = (assigns, is)
some_kind l xs ts r (inr (inr (inr (inr (inl is))))) = (releases, is)
some_kind l xs ts r (inr (inr (inr (inr (inr (inl is)))))) = (invariants, is)
some_kind l xs ts r (inr (inr (inr (inr (inr (inr is)))))) = (instances, is)

-- ---- items of different classes begin with different tokens

abbrev class_of : ItemKind → ℕ
class_of parameters = 0
class_of signals = 1
class_of memories = 1
class_of assigns = 2
class_of releases = 2
class_of invariants = 3
class_of instances = 4

abbrev class_of_lexeme : Lexeme → ℕ
class_of_lexeme (word words.Parameter) = 0
class_of_lexeme (word words.Localparam) = 0
class_of_lexeme (word words.Wire) = 1
class_of_lexeme (word words.Reg) = 1
class_of_lexeme (word words.Assign) = 2
class_of_lexeme (word words.Invariant) = 3
class_of_lexeme (identifier x) = 4
class_of_lexeme (word words.Always) = 5
class_of_lexeme (word words.Endmodule) = 6
class_of_lexeme x = 7

leads_all_as : {A : Type 0} {as_item : A → ItemTree} {P : List A → Form} {F D : Behind}
    → ((xs : List A) → Leads F D (P xs)) → (items : List ItemTree)
    → Leads F D (all_as as_item P items)
leads_all_as member items =
    record { leads = λ ts r is ends. let known = member is.0 in known.leads ts r is.2 ends }

leads_parameter_word : (b : Bool) →
    Leads (HasClass class_of_lexeme 0) Anything (a_word (parameter_word b))
leads_parameter_word true = leads_word words.Localparam (λ p rest. refl)
leads_parameter_word false = leads_word words.Parameter (λ p rest. refl)

leads_signal_word : (k : DeclKind) → Leads (HasClass class_of_lexeme 1) Anything (IsSignalKind k)
leads_signal_word kinds.Wire = leads_word words.Wire (λ p rest. refl)
leads_signal_word kinds.Reg = leads_word words.Reg (λ p rest. refl)
leads_signal_word _ = leads_never

leads_released : (l : Limits) (a : ItemTree) →
    Leads (HasClass class_of_lexeme 2) Anything (IsReleased l a)
leads_released l (released t e x) = leads_first (leads_word words.Assign (λ p rest. refl))
leads_released l a = leads_never

leads_invariant : (l : Limits) (a : ItemTree) →
    Leads (HasClass class_of_lexeme 3) Anything (IsInvariant l a)
leads_invariant l (invariant_item p e) =
    leads_given (leads_first (leads_word words.Invariant (λ p rest. refl)))
leads_invariant l a = leads_never

leads_always : (l : Limits) (a : ItemTree) →
    Leads (HasClass class_of_lexeme 5) Anything (IsAlways l a)
leads_always l (always_item p x s) = leads_first (leads_this (word words.Always) p (λ p rest. refl))
leads_always l a = leads_never

leads_kind : (l : Limits) (k : ItemKind) (xs : List ItemTree) →
    Leads (HasClass class_of_lexeme (class_of k)) Anything (of_kind l k xs)
leads_kind l parameters xs =
    leads_all_as (leads_listed _ (λ q. leads_first (leads_parameter_word q.local))) xs
leads_kind l signals xs =
    leads_all_as (leads_listed _ (λ d. leads_first (leads_signal_word d.kind))) xs
leads_kind l memories xs =
    leads_all_as (leads_only (λ m. leads_first (leads_word words.Reg (λ p rest. refl)))) xs
leads_kind l assigns xs = leads_first (leads_word words.Assign (λ p rest. refl))
leads_kind l releases xs = leads_only (leads_released l) xs
leads_kind l invariants xs = leads_only (leads_invariant l) xs
leads_kind l instances xs = leads_all_as (λ is. leads_instances l is (λ x p rest. refl)) xs

kinds_apart : (l : Limits) (k j : ItemKind) (xs ys : List ItemTree) →
    (class_of k ≡ class_of j → ⊥) → AreApart (of_kind l k xs) (of_kind l j ys)
kinds_apart l k j xs ys differ =
    classes_apart class_of_lexeme (class_of k) (class_of j) differ (leads_kind l k xs)
    (leads_kind l j ys)

-- ---- items

one_all_as : {A : Type 0} {as_item : A → ItemTree} {P : List A → Form} {D : Behind}
    → ((xs ys : List A) → AreOne D (xs ≡ ys) (P xs) (P ys)) → (xs ys : List ItemTree)
    → AreOne D (xs ≡ ys) (all_as as_item P xs) (all_as as_item P ys)
one_all_as {as_item = as_item} member xs ys = record {
  one = λ ts r s is is_too ends ends_too.
      let known = member is.0 is_too.0 in
      let same = known.one ts r s is.2 is_too.2 ends ends_too in
      (is.1 ∙ ap (map as_item) same.0 ∙ sym is_too.1, same.1);
}

signals_or_memory : (l : Limits) (ds : List DeclarationTree) (ms : List MemoryTree) →
    AreOne ListEnds ⊥ (AreSignals l ds) (only (IsMemory l) ms)
signals_or_memory l ds [] = one_turned one_never
signals_or_memory l ds (m ∷ n ∷ ms) = one_turned one_never
signals_or_memory l ds (m ∷ []) = one_of_signals l ds m

declared_or_memory : (l : Limits) (xs ys : List ItemTree) →
    AreOne ListEnds (xs ≡ ys) (of_kind l signals xs) (of_kind l memories ys)
declared_or_memory l xs ys = record {
  one = λ ts r s is is_too ends ends_too.
      let never = signals_or_memory l is.0 is_too.0 in
      absurd (never.one ts r s is.2 is_too.2 ends ends_too).0;
}

one_turned_trees : {A : Type 0} {a b : A} {F : Behind} {P Q : Form} → AreOne F (a ≡ b) P Q →
    AreOne F (b ≡ a) Q P
one_turned_trees same = one_turned (one_as sym same)

one_kind : (l : Limits) (k j : ItemKind) (xs ys : List ItemTree) →
    AreOne ListEnds (xs ≡ ys) (of_kind l k xs) (of_kind l j ys)
one_kind l parameters parameters xs ys = one_all_as (one_parameters l) xs ys
one_kind l parameters j xs ys = one_apart (kinds_apart l parameters j xs ys (λ same. omega arith))
one_kind l signals signals xs ys = one_all_as (one_signals l) xs ys
one_kind l signals memories xs ys = declared_or_memory l xs ys
one_kind l signals j xs ys = one_apart (kinds_apart l signals j xs ys (λ same. omega arith))
one_kind l memories memories xs ys =
    one_all_as (one_only (λ m n. one_anywhere (one_memory l m n))) xs ys
one_kind l memories signals xs ys = one_turned_trees (declared_or_memory l ys xs)
one_kind l memories j xs ys = one_apart (kinds_apart l memories j xs ys (λ same. omega arith))
one_kind l assigns assigns xs ys = one_all_continuous l xs ys
one_kind l assigns releases xs ys = one_apart (assigned_or_released l xs ys)
one_kind l assigns j xs ys = one_apart (kinds_apart l assigns j xs ys (λ same. omega arith))
one_kind l releases releases xs ys = one_only (λ a b. one_anywhere (one_released l a b)) xs ys
one_kind l releases assigns xs ys = one_apart (apart_turned (assigned_or_released l ys xs))
one_kind l releases j xs ys = one_apart (kinds_apart l releases j xs ys (λ same. omega arith))
one_kind l invariants invariants xs ys = one_where list_ends (one_only (one_invariant l) xs ys)
one_kind l invariants j xs ys = one_apart (kinds_apart l invariants j xs ys (λ same. omega arith))
one_kind l instances instances xs ys = one_all_as (one_instances l) xs ys
one_kind l instances j xs ys = one_apart (kinds_apart l instances j xs ys (λ same. omega arith))

one_listed_item : (l : Limits) (xs ys : List ItemTree) →
    AreOne ListEnds (xs ≡ ys) (IsListedItem l xs) (IsListedItem l ys)
one_listed_item l xs ys = record {
  one = λ ts r s is is_too ends ends_too.
      let mine = some_kind l xs ts r is in
      let theirs = some_kind l ys ts s is_too in
      let same = one_kind l mine.0 theirs.0 xs ys in
      same.one ts r s mine.1 theirs.1 ends ends_too;
}

listed_class : (c : ℕ) → ((k : ItemKind) → class_of k ≡ c → ⊥) → (l : Limits) (xs : List ItemTree)
    → Refuses (HasClass class_of_lexeme c) (IsListedItem l xs)
listed_class c differ l xs = record {
  leads = λ ts r is ends begins.
      let mine = some_kind l xs ts r is in
      let known = leads_kind l mine.0 xs in
      differ mine.0 (one_class class_of_lexeme (class_of mine.0) c ts (known.leads ts r mine.1 tt)
      begins);
}

no_always : (k : ItemKind) → class_of k ≡ 5 → ⊥
no_always parameters same = omega arith
no_always _ same = omega arith

no_endmodule : (k : ItemKind) → class_of k ≡ 6 → ⊥
no_endmodule parameters same = omega arith
no_endmodule _ same = omega arith

listed_or_always : (l : Limits) (xs ys : List ItemTree) →
    AreApart (IsListedItem l xs ⨾ a_sign signs.Semicolon) (only (IsAlways l) ys)
listed_or_always l xs ys =
    apart_from {D = HasClass class_of_lexeme 5} (leads_first (listed_class 5 no_always l xs))
    (leads_only (leads_always l) ys)

pub one_item : (l : Limits) (xs ys : List ItemTree) →
    AreOne Anything (xs ≡ ys) (IsItem l xs) (IsItem l ys)
unfolding IsItem
one_item l xs ys =
    one_or (one_only (one_always l) xs ys) (one_apart (apart_turned (listed_or_always l ys xs)))
    (one_apart (listed_or_always l xs ys))
    (before_sign signs.Semicolon (one_listed_item l xs ys) (λ p rest. refl))

-- `endmodule` comes next
abbrev pub EndmoduleIs : Behind
EndmoduleIs = HasClass class_of_lexeme 6

item_is_no_end : (l : Limits) (xs : List ItemTree) → Refuses EndmoduleIs (IsItem l xs)
unfolding IsItem
item_is_no_end l xs =
    leads_or (leads_only always_is_no_end xs) (leads_first (listed_class 6 no_endmodule l xs))
  where
    always_is_no_end : (a : ItemTree) → Refuses EndmoduleIs (IsAlways l a)
    always_is_no_end a = record {
      leads = λ ts r is ends begins.
          let known = leads_always l a in
          let clash = one_class class_of_lexeme 5 6 ts (known.leads ts r is tt) begins in
          omega arith;
    }

pub one_items : (l : Limits) (xs ys : List ItemTree) →
    AreOne EndmoduleIs (xs ≡ ys) (AreItems l xs) (AreItems l ys)
one_items l xs ys = record {
  one = λ ts r s is is_too ends ends_too.
      let known = one_each (one_item l) (item_is_no_end l) is.0 is_too.0 in
      let same = known.one ts r s is.2 is_too.2 ends ends_too in
      (is.1 ∙ ap (flat_map (λ group. group)) same.0 ∙ sym is_too.1, same.1);
}
