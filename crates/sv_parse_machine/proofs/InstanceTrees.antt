-- Instances of modules, with their overrides and their links, are what their symbols stand for.
use Rattle.std.proofs.Common.{ℕ, List, [], ◌∷◌, Option, Some, None, inl, inr, refl, sym, subst}
use Rattle.sv_num.specs.declared.faults.Place.{Place}
use Rattle.sv_token.specs.declared.signs.SignKind.TheVariants as signs
use Rattle.sv_token.specs.Lexemes.{Placed}
use Rattle.sv_ast.specs.Tree.{ExpressionTree, NamedOverride, OverrideTrees, named_overrides}
use Rattle.sv_ast.specs.Tree.{ordered_overrides, NamedLink, LinkTrees, named_links, ordered_links}
use Rattle.sv_ast.specs.Tree.{InstanceTree}
use Rattle.sv_ast.specs.GrammarForms.{Form, ◌⨾◌, given, perhaps, a_sign, later}
use Rattle.sv_ast.specs.GrammarExpressions.{Limits}
use Rattle.sv_ast.specs.GrammarDeclarations.{IsValue}
use Rattle.sv_ast.specs.GrammarModules.{IsNamedOverride, AreOverrides, IsNamedLink, AreLinks}
use Rattle.sv_ast.specs.GrammarModules.{IsNamedInstance, AreOfOneModule, AreInstances}
use Rattle.sv_parse_machine.specs.ModuleTable.{perhaps_overrides_on}
use Rattle.sv_parse_machine.proofs.ExpressionForms.{Next, ends_name, ends_tail, expression_form}
use Rattle.sv_parse_machine.proofs.OuterForms.{IsOver, some_name, more_values_form, overrides_form}
use Rattle.sv_parse_machine.proofs.OuterForms.{perhaps_overrides_form, link_form, links_form}
use Rattle.sv_parse_machine.proofs.OuterForms.{more_instances_form}
use Rattle.sv_parse_machine.proofs.StatementSteps.{value_up_to, value_before, next_later}
use Rattle.sv_parse_machine.proofs.StatementForms.{expression_tree}
use Rattle.sv_parse_machine.proofs.TreeParts.{instance_tree}
use Rattle.sv_parse_machine.proofs.ListTrees.{next_name, Any, Follows, f_later, b_later}

-- ---- values with commas between them

abbrev LaterValue : Limits → ExpressionTree → ExpressionTree → Form
LaterValue l before = IsValue l

f_later_value : (l : Limits) (a b : ExpressionTree) (ts rest : List Placed) → Any a
    → LaterValue l a b ts rest → Follows signs.CloseParenthesis rest
    → Any b × expression_form l 0 ts rest
f_later_value l a b ts rest known is follows =
    (tt, value_up_to l 0 b ts rest (follows ends_name tt tt) (follows ends_tail tt tt) is)

abbrev values_form : Limits → Form
values_form l = expression_form l 0 ⨾ more_values_form l

f_values : (l : Limits) (e : ExpressionTree) (es : List ExpressionTree) (ts m rest : List Placed)
    → IsValue l e ts m
    → (later (LaterValue l) e es ⨾ a_sign signs.CloseParenthesis) m rest → values_form l ts rest
f_values l e es ts m rest is others = (
  m,
  value_up_to l 0 e ts m
      (next_later ends_name (LaterValue l) e es signs.CloseParenthesis m rest tt tt others)
      (next_later ends_tail (LaterValue l) e es signs.CloseParenthesis m rest tt tt others) is,
  f_later (LaterValue l) (expression_form l 0) Any signs.CloseParenthesis (f_later_value l) e es m
      rest tt others,
)

abbrev NextValue : Limits → ExpressionTree → List Placed → List Placed → Type 0
NextValue l a ts rest = (b : ExpressionTree) × Any b × LaterValue l a b ts rest

b_later_value : (l : Limits) (a : ExpressionTree) (ts rest : List Placed) → Any a →
    expression_form l 0 ts rest → NextValue l a ts rest
b_later_value l a ts rest known is =
    let tree = expression_tree l 0 ts rest is in (tree.0, tt, tree.1)

abbrev Values : Limits → List Placed → List Placed → Type 0
Values l ts rest =
    (e : ExpressionTree) × (es : List ExpressionTree) × (m : List Placed) × IsValue l e ts m
    × (later (LaterValue l) e es ⨾ a_sign signs.CloseParenthesis) m rest

b_values : (l : Limits) (ts rest : List Placed) → values_form l ts rest → Values l ts rest
b_values l ts rest (m, first, (k, (m1, others, close))) =
    let tree = expression_tree l 0 ts m first in
    let further = b_later (LaterValue l) (expression_form l 0) Any signs.CloseParenthesis
    (b_later_value l) tree.0 k m m1 rest tt others close in
    (tree.0, further.0, m, tree.1, further.1)

-- ---- overrides

abbrev named_override_form : Limits → Form
named_override_form l =
    a_sign signs.Dot ⨾ some_name ⨾ a_sign signs.OpenParenthesis ⨾ expression_form l 0
    ⨾ a_sign signs.CloseParenthesis

abbrev LaterOverride : Limits → NamedOverride → NamedOverride → Form
LaterOverride l before = IsNamedOverride l

f_named_override : (l : Limits) (o : NamedOverride) (ts rest : List Placed) →
    IsNamedOverride l o ts rest → named_override_form l ts rest
f_named_override l o ts rest (m, dot, (m1, name, (m2, opens, (m3, value, close)))) = (
  m,
  dot,
  (
    m1,
    (o.name, (o.place, name)),
    (
      m2,
      opens,
      (
        m3,
        value_before l 0 o.value signs.CloseParenthesis m2 m3 rest tt tt value
            close,
        close,
      ),
    ),
  ),
)

f_later_override : (l : Limits) (a b : NamedOverride) (ts rest : List Placed) → Any a
    → LaterOverride l a b ts rest → Follows signs.CloseParenthesis rest
    → Any b × named_override_form l ts rest
f_later_override l a b ts rest known is follows = (tt, f_named_override l b ts rest is)

f_named_overrides : (l : Limits) (o : NamedOverride) (os : List NamedOverride)
    (ts m rest : List Placed) → IsNamedOverride l o ts m
    → (later (LaterOverride l) o os ⨾ a_sign signs.CloseParenthesis) m rest
    → overrides_form l ts rest
f_named_overrides l o os ts m rest is others =
    let (m1, dot, (m2, name, (m3, opens, (m4, value, close)))) = f_named_override l o ts m is in
    let further = f_later (LaterOverride l) (named_override_form l) Any signs.CloseParenthesis
    (f_later_override l) o os m rest tt others in
    inl (m1, dot, (m2, name, (m3, opens, (m4, value, (m, close, (rest, further, refl))))))

f_ordered_overrides : (l : Limits) (ts rest : List Placed) → values_form l ts rest →
    overrides_form l ts rest
f_ordered_overrides l ts rest (m, first, others) = inr (m, first, (rest, others, refl))

f_overrides : (l : Limits) (o : OverrideTrees) (ts rest : List Placed) → AreOverrides l o ts rest
    → Next (λ x. IsOver (perhaps_overrides_on x)) rest
    → perhaps_overrides_form l ts rest
f_overrides l (named_overrides []) ts rest (m, hash, (m1, opens, (m2, never, close))) next =
    absurd never
f_overrides l (named_overrides (o ∷ os)) ts rest
    (m, hash, (m1, opens, (m2, (m3, is, others), close))) next =
    let named = f_named_overrides l o os m1 m3 rest is (m2, others, close) in
    inr (m, hash, (m1, opens, (rest, named, refl)))
f_overrides l (ordered_overrides []) ts rest same next =
    inl (subst (Next (λ x. IsOver (perhaps_overrides_on x))) (sym same) next, same)
f_overrides l (ordered_overrides (e ∷ es)) ts rest
    (m, hash, (m1, opens, (m2, (m3, is, others), close))) next =
    let values = f_values l e es m1 m3 rest is (m2, others, close) in
    inr (m, hash, (m1, opens, (rest, f_ordered_overrides l m1 rest values, refl)))

abbrev Override : Limits → List Placed → List Placed → Type 0
Override l ts rest = (o : NamedOverride) × IsNamedOverride l o ts rest

b_named_override : (l : Limits) (ts rest : List Placed) → named_override_form l ts rest →
    Override l ts rest
b_named_override l ts rest (m, dot, (m1, (x, (p, name)), (m2, opens, (m3, value, close)))) =
    let tree = expression_tree l 0 m2 m3 value in (
      record {
        name = x;
        place = p;
        value = tree.0;
      },
      (m, dot, (m1, name, (m2, opens, (m3, tree.1, close)))),
    )

abbrev NextOverride : Limits → NamedOverride → List Placed → List Placed → Type 0
NextOverride l a ts rest = (b : NamedOverride) × Any b × LaterOverride l a b ts rest

b_later_override : (l : Limits) (a : NamedOverride) (ts rest : List Placed) → Any a →
    named_override_form l ts rest → NextOverride l a ts rest
b_later_override l a ts rest known is =
    let this = b_named_override l ts rest is in (this.0, tt, this.1)

abbrev Overrides : Limits → List Placed → List Placed → Type 0
Overrides l ts rest = (o : OverrideTrees) × AreOverrides l o ts rest

b_some_overrides : (l : Limits) (ts m0 m rest : List Placed) → a_sign signs.Hash ts m0
    → a_sign signs.OpenParenthesis m0 m → overrides_form l m rest
    → Overrides l ts rest
b_some_overrides l ts m0 m rest hash opens
    (inl (
      m1,
      dot,
      (
        m2,
        name,
        (m3, inside, (m4, value, (m5, close, (m6, (k, (m7, others, last)), same)))),
      ),
    )) =
    let this = b_named_override l m m5 (m1, dot, (m2, name, (m3, inside, (m4, value, close)))) in
    let further = b_later (LaterOverride l) (named_override_form l) Any signs.CloseParenthesis
    (b_later_override l) this.0 k m5 m7 m6 tt others last in
    subst (Overrides l ts) same (
      named_overrides (this.0 ∷ further.0),
      (m0, hash, (m, opens, (further.1.0, (m5, this.1, further.1.1), further.1.2))),
    )
b_some_overrides l ts m0 m rest hash opens (inr (m1, first, (m2, others, same))) =
    let (e, es, m3, is, (m4, further, close)) = b_values l m m2 (m1, first, others) in
    subst (Overrides l ts) same
    (ordered_overrides (e ∷ es), (m0, hash, (m, opens, (m4, (m3, is, further), close))))

b_overrides : (l : Limits) (ts rest : List Placed) → perhaps_overrides_form l ts rest →
    Overrides l ts rest
b_overrides l ts rest (inl (next, same)) = (ordered_overrides [], same)
b_overrides l ts rest (inr (m, hash, (m1, opens, (m2, inside, same)))) =
    subst (Overrides l ts) same (b_some_overrides l ts m m1 m2 hash opens inside)

-- ---- links

abbrev named_link_form : Limits → Form
named_link_form l = a_sign signs.Dot ⨾ some_name ⨾ a_sign signs.OpenParenthesis ⨾ link_form l

abbrev LaterLink : Limits → NamedLink → NamedLink → Form
LaterLink l before = IsNamedLink l

f_link : (l : Limits) (v : Option ExpressionTree) (ts mid rest : List Placed)
    → perhaps (IsValue l) v ts mid → a_sign signs.CloseParenthesis mid rest
    → link_form l ts rest
f_link l None ts mid rest same close =
    inl (rest, subst (λ us. a_sign signs.CloseParenthesis us rest) (sym same) close, refl)
f_link l (Some e) ts mid rest is close =
    inr (
      mid,
      value_before l 0 e signs.CloseParenthesis ts mid rest tt tt is
          close,
      (rest, close, refl),
    )

f_named_link : (l : Limits) (k : NamedLink) (ts rest : List Placed) → IsNamedLink l k ts rest →
    named_link_form l ts rest
f_named_link l k ts rest (m, dot, (m1, name, (m2, opens, (m3, value, close)))) =
    (m, dot, (m1, (k.name, (k.place, name)), (m2, opens, f_link l k.value m2 m3 rest value close)))

f_later_link : (l : Limits) (a b : NamedLink) (ts rest : List Placed) → Any a
    → LaterLink l a b ts rest → Follows signs.CloseParenthesis rest
    → Any b × named_link_form l ts rest
f_later_link l a b ts rest known is follows = (tt, f_named_link l b ts rest is)

f_named_links : (l : Limits) (k : NamedLink) (ks : List NamedLink) (ts m rest : List Placed)
    → IsNamedLink l k ts m
    → (later (LaterLink l) k ks ⨾ a_sign signs.CloseParenthesis) m rest → links_form l ts rest
f_named_links l k ks ts m rest is others =
    let (m1, dot, (m2, name, (m3, opens, link))) = f_named_link l k ts m is in
    let further = f_later (LaterLink l) (named_link_form l) Any signs.CloseParenthesis
    (f_later_link l) k ks m rest tt others in
    inr (inl (m1, dot, (m2, name, (m3, opens, (m, link, (rest, further, refl))))))

f_ordered_links : (l : Limits) (ts rest : List Placed) → values_form l ts rest →
    links_form l ts rest
f_ordered_links l ts rest (m, first, others) = inr (inr (m, first, (rest, others, refl)))

f_links : (l : Limits) (k : LinkTrees) (ts rest : List Placed) →
    (AreLinks l k ⨾ a_sign signs.CloseParenthesis) ts rest → links_form l ts rest
f_links l (named_links []) ts rest (m, never, close) = absurd never
f_links l (named_links (k ∷ ks)) ts rest (m, (m1, is, others), close) =
    f_named_links l k ks ts m1 rest is (m, others, close)
f_links l (ordered_links []) ts rest (m, same, close) =
    inl (rest, subst (λ us. a_sign signs.CloseParenthesis us rest) (sym same) close, refl)
f_links l (ordered_links (e ∷ es)) ts rest (m, (m1, is, others), close) =
    f_ordered_links l ts rest (f_values l e es ts m1 rest is (m, others, close))

abbrev LinkedTo : Limits → List Placed → List Placed → Type 0
LinkedTo l ts rest =
    (v : Option ExpressionTree) × (perhaps (IsValue l) v ⨾ a_sign signs.CloseParenthesis) ts rest

b_link : (l : Limits) (ts rest : List Placed) → link_form l ts rest → LinkedTo l ts rest
b_link l ts rest (inl (m, close, same)) = subst (LinkedTo l ts) same (None, (ts, refl, close))
b_link l ts rest (inr (m, value, (m1, close, same))) =
    let tree = expression_tree l 0 ts m value in
    subst (LinkedTo l ts) same (Some tree.0, (m, tree.1, close))

abbrev Link : Limits → List Placed → List Placed → Type 0
Link l ts rest = (k : NamedLink) × IsNamedLink l k ts rest

b_named_link : (l : Limits) (ts rest : List Placed) → named_link_form l ts rest → Link l ts rest
b_named_link l ts rest (m, dot, (m1, (x, (p, name)), (m2, opens, link))) =
    let value = b_link l m2 rest link in
    (record { name = x; place = p; value = value.0 }, (m, dot, (m1, name, (m2, opens, value.1))))

abbrev NextLink : Limits → NamedLink → List Placed → List Placed → Type 0
NextLink l a ts rest = (b : NamedLink) × Any b × LaterLink l a b ts rest

b_later_link : (l : Limits) (a : NamedLink) (ts rest : List Placed) → Any a →
    named_link_form l ts rest → NextLink l a ts rest
b_later_link l a ts rest known is = let this = b_named_link l ts rest is in (this.0, tt, this.1)

abbrev Links : Limits → List Placed → List Placed → Type 0
Links l ts rest = (k : LinkTrees) × (AreLinks l k ⨾ a_sign signs.CloseParenthesis) ts rest

b_links : (l : Limits) (ts rest : List Placed) → links_form l ts rest → Links l ts rest
b_links l ts rest (inl (m, close, same)) =
    subst (Links l ts) same (ordered_links [], (ts, refl, close))
b_links l ts rest (inr
    (inl (m1, dot, (m2, name, (m3, opens, (m4, link, (m5, (k, (m6, others, last)), same))))))) =
    let this = b_named_link l ts m4 (m1, dot, (m2, name, (m3, opens, link))) in
    let further = b_later (LaterLink l) (named_link_form l) Any signs.CloseParenthesis
    (b_later_link l) this.0 k m4 m6 m5 tt others last in
    subst (Links l ts) same
    (named_links (this.0 ∷ further.0), (further.1.0, (m4, this.1, further.1.1), further.1.2))
b_links l ts rest (inr (inr (m1, first, (m2, others, same)))) =
    let (e, es, m3, is, (m4, further, close)) = b_values l ts m2 (m1, first, others) in
    subst (Links l ts) same (ordered_links (e ∷ es), (m4, (m3, is, further), close))

-- ---- instances

abbrev named_instance_form : Limits → Form
named_instance_form l = some_name ⨾ a_sign signs.OpenParenthesis ⨾ links_form l

abbrev LaterInstance : Limits → InstanceTree → InstanceTree → Form
LaterInstance l before i = given (AreOfOneModule before i) (IsNamedInstance l i)

f_named_instance : (l : Limits) (i : InstanceTree) (ts rest : List Placed) →
    IsNamedInstance l i ts rest → named_instance_form l ts rest
f_named_instance l i ts rest (m, name, (m1, opens, links)) =
    (m, (i.name, (i.name_place, name)), (m1, opens, f_links l i.links m1 rest links))

f_later_instance : (l : Limits) (a b : InstanceTree) (ts rest : List Placed) → Any a
    → LaterInstance l a b ts rest → Follows signs.Semicolon rest
    → Any b × named_instance_form l ts rest
f_later_instance l a b ts rest known (same, is) follows = (tt, f_named_instance l b ts rest is)

-- an item of instances
abbrev pub instances_form : Limits → Form
instances_form l =
    some_name ⨾ perhaps_overrides_form l ⨾ some_name ⨾ a_sign signs.OpenParenthesis ⨾ links_form l
    ⨾ more_instances_form l

pub f_instances : (l : Limits) (is : List InstanceTree) (ts rest : List Placed) →
    (AreInstances l is ⨾ a_sign signs.Semicolon) ts rest → instances_form l ts rest
f_instances l [] ts rest (m, never, final) = absurd never
f_instances l (i ∷ is) ts rest (m, (m1, (m2, master, (m3, overrides, named)), others), final) =
    let (m4, name, (m5, opens, links)) = f_named_instance l i m3 m1 named in
    let further = f_later (LaterInstance l) (named_instance_form l) Any signs.Semicolon
    (f_later_instance l) i is m1 rest tt (m, others, final) in (
      m2,
      (i.master, (i.place, master)),
      (
        m3,
        f_overrides l i.overrides m2 m3 overrides
            (next_name (λ x. IsOver (perhaps_overrides_on x)) m3 m4 (λ x. tt) name),
        (m4, name, (m5, opens, (m1, links, further))),
      ),
    )

-- a named instance of the module and with the overrides
abbrev InstanceOf : Limits → List ℕ → Place → OverrideTrees → List Placed → List Placed → Type 0
InstanceOf l master q overrides ts rest = (x : List ℕ) × (p : Place) × (k : LinkTrees)
    × IsNamedInstance l (instance_tree master q overrides x p k) ts rest

b_named_instance : (l : Limits) (master : List ℕ) (q : Place) (overrides : OverrideTrees)
    (ts rest : List Placed) → named_instance_form l ts rest
    → InstanceOf l master q overrides ts rest
b_named_instance l master q overrides ts rest (m, (x, (p, name)), (m1, opens, links)) =
    let links = b_links l m1 rest links in
    (x, p, links.0, (m, name, (m1, opens, links.1)))

abbrev NextInstance : Limits → InstanceTree → List Placed → List Placed → Type 0
NextInstance l a ts rest = (b : InstanceTree) × Any b × LaterInstance l a b ts rest

b_later_instance : (l : Limits) (a : InstanceTree) (ts rest : List Placed) → Any a →
    named_instance_form l ts rest → NextInstance l a ts rest
b_later_instance l a ts rest known is =
    let this = b_named_instance l a.master a.place a.overrides ts rest is in
    let next : InstanceTree = record a { name = this.0; name_place = this.1; links = this.2 } in
    (next, tt, ((refl, refl, refl), this.3))

abbrev pub Instances : Limits → List Placed → List Placed → Type 0
Instances l ts rest =
    (is : List InstanceTree) × (AreInstances l is ⨾ a_sign signs.Semicolon) ts rest

pub b_instances : (l : Limits) (ts rest : List Placed) → instances_form l ts rest →
    Instances l ts rest
b_instances l ts rest (
  m,
  (x, (p, master)),
  (m1, overrides, (m2, name, (m3, opens, (m4, links, (k, (m5, others, final)))))),
) =
    let overrides = b_overrides l m m1 overrides in
    let this = b_named_instance l x p overrides.0 m1 m4 (m2, name, (m3, opens, links)) in
    let first : InstanceTree = instance_tree x p overrides.0 this.0 this.1 this.2 in
    let further = b_later (LaterInstance l) (named_instance_form l) Any signs.Semicolon
    (b_later_instance l) first k m4 m5 rest tt others final in (
      first ∷ further.0,
      (
        further.1.0,
        (m4, (m, master, (m1, overrides.1, this.3)), further.1.1),
        further.1.2,
      ),
    )
