-- Where the walk of links ends.
use Rattle.std.proofs.Common.{◌≡◌, ℕ, Bool, true, false, not, List, [], ◌∷◌, ◌++◌, Option, Some}
use Rattle.std.proofs.Common.{None, refl, sym, ap, subst, ◌∙◌}
use Rattle.std.specs.Prelude.{Result, Ok, Err}
use Rattle.std.specs.List.{list_any}
use Rattle.std.specs.Str.{bytes_eq}
use Rattle.sv_num.specs.declared.faults.Place.{Place}
use Rattle.sv_ast.specs.declared.declarations.DeclKind.{DeclKind}
use Rattle.sv_ast.specs.declared.declarations.DeclKind.TheVariants.{Input, OutputWire, OutputReg}
use Rattle.sv_ast.specs.declared.declarations.DeclKind.TheVariants.{Wire, Reg}
use Rattle.sv_ast.specs.ClockPaths.{is_input_kind}
use Rattle.sv_ast.specs.Instances.{port_named, whole_signal}
use Rattle.sv_ast.specs.Scopes.{width_of}
use Rattle.sv_ast.specs.Tree.{ExpressionTree, DeclarationTree, NamedLink, named_links}
use Rattle.sv_ast.specs.Tree.{LinkTrees, ordered_links}
use Rattle.sv_ast.specs.GrammarModules.{place_of}
use Rattle.sv_flat.specs.Design.{TypedTree, port_in, port_out, ProcessForm}
use Rattle.sv_elab_rules.specs.Walks.{WalkStep, Walk, ask, done, found, ◌>>=◌}
use Rattle.sv_elab_rules.specs.Rules.{wrong_link, links_over}
use Rattle.sv_elab_rules.specs.Names.{Names}
use Rattle.sv_elab_rules.specs.ExpressionSteps.{expression_walk}
use Rattle.sv_elab_rules.specs.Links.{Ports, whole_assignment, port_number, port_width, port_value}
use Rattle.sv_elab_rules.specs.Links.{input_link, output_link, link_walk, optional_link, named_links_walk}
use Rattle.sv_elab_rules.specs.Links.{ordered_links_walk, links_walk}
use Rattle.sv_elab_rules.proofs.WalkLemmas.{end_after, end_broken}
use Rattle.sv_elab.specs.Instances.{port_walk}

-- ---- one link

module _ (outer : Names) (ports : Ports) (d : DeclarationTree) (e : ExpressionTree) where
  module _ (w : ℕ) (is : w ≡ port_width ports d) where
    pub input_found : (v : TypedTree) → (expression_walk outer e w).end ≡ Ok v
        → (input_link outer ports d e).end
        ≡ Ok (whole_assignment (place_of e) port_in (port_number ports d.name) w v)
    unfolding input_link
    input_found v h =
        let here = ap (λ n. (expression_walk outer e n).end) (sym is) ∙ h in
        rw here (ap (λ n. let r : Result ProcessForm WalkStep = Ok
        (whole_assignment (place_of e) port_in (port_number ports d.name) n v) in r) (sym is))

    pub input_broken : (s : WalkStep) → (expression_walk outer e w).end ≡ Err s
        → (input_link outer ports d e).end ≡ Err s
    unfolding input_link
    input_broken s h =
        let here = ap (λ n. (expression_walk outer e n).end) (sym is) ∙ h in rw here refl

  pub output_found : (n : List ℕ) → whole_signal outer.scope e ≡ Some n
      → (output_link outer ports d e).end
      ≡ Ok (whole_assignment (place_of e) port_out (outer.number n) (width_of (outer.scope n))
      (port_value ports d (width_of (outer.scope n)) (place_of e)))
  unfolding output_link
  output_found n h = rw h refl

  pub output_broken : whole_signal outer.scope e ≡ None
      → (output_link outer ports d e).end ≡ Err (wrong_link (place_of e) d.name)
  unfolding output_link
  output_broken h = rw h refl

  pub link_input : is_input_kind d.kind ≡ true →
      (link_walk outer ports d e).end ≡ (input_link outer ports d e).end
  unfolding link_walk
  link_input h = rw (h, link_walk) refl

  pub link_output : is_input_kind d.kind ≡ false →
      (link_walk outer ports d e).end ≡ (output_link outer ports d e).end
  unfolding link_walk
  link_output h = rw (h, link_walk) refl

  pub optional_linked : (o : Option ExpressionTree) → o ≡ Some e → (p : ProcessForm)
      → (link_walk outer ports d e).end ≡ Ok p
      → (optional_link outer ports d o).end ≡ Ok (p ∷ [])
  unfolding optional_link
  optional_linked o is p h = rw (is, h) refl

  pub optional_broken : (o : Option ExpressionTree) → o ≡ Some e → (s : WalkStep)
      → (link_walk outer ports d e).end ≡ Err s
      → (optional_link outer ports d o).end ≡ Err s
  unfolding optional_link
  optional_broken o is s h = rw (is, h) refl

pub optional_none : (outer : Names) (ports : Ports) (d : DeclarationTree)
    (o : Option ExpressionTree) → o ≡ None
    → (optional_link outer ports d o).end ≡ Ok []
unfolding optional_link
optional_none outer ports d o is = rw is refl

pub not_input : (k : DeclKind) → (k ≡ Input → ⊥) → is_input_kind k ≡ false
not_input Input h = absurd (h refl)
not_input OutputWire h = refl
not_input OutputReg h = refl
not_input Wire h = refl
not_input Reg h = refl

-- ---- a port by its name

module _ (ports : Ports) (linked : List (List ℕ)) (p : Place) (n : List ℕ) where
  pub port_unknown : port_named ports.master n ≡ None
      → (port_walk ports linked p n).end ≡ Err (wrong_link p n)
  port_unknown h = rw h refl

  pub port_twice : (d : DeclarationTree) → port_named ports.master n ≡ Some d
      → not (list_any (bytes_eq n) linked) ≡ false
      → (port_walk ports linked p n).end ≡ Err (wrong_link p n)
  port_twice d h k = rw (h, k) refl

  pub port_new : (d : DeclarationTree) → port_named ports.master n ≡ Some d
      → not (list_any (bytes_eq n) linked) ≡ true → (port_walk ports linked p n).end ≡ Ok d
  port_new d h k = rw (h, k) refl

-- ---- links by name

joined : {X Y : Type 0} (o : Option X) (b : Bool) (s t : WalkStep) (more : X → Walk Y)
    → (found o s >>= λ x. ask b t >>= λ _. more x).end ≡
    ((found o s >>= λ x. ask b t >>= λ _. done x) >>= more).end
joined None b s t more = refl
joined (Some x) true s t more = refl
joined (Some x) false s t more = refl

module _ (outer : Names) (ports : Ports) (linked : List (List ℕ)) (processes : List ProcessForm)
    (l : NamedLink) (ls : List NamedLink) where
  next : DeclarationTree → Walk (List ProcessForm)
  next d = optional_link outer ports d l.value
      >>= λ more. named_links_walk outer ports (linked ++ l.name ∷ []) (processes ++ more) ls

  by_port : (named_links_walk outer ports linked processes (l ∷ ls)).end
      ≡ (port_walk ports linked l.place l.name >>= next).end
  unfolding named_links_walk next
  by_port = joined (port_named ports.master l.name) (not (list_any (bytes_eq l.name) linked))
      (wrong_link l.place l.name) (wrong_link l.place l.name) next

  pub named_port_broken : (s : WalkStep) → (port_walk ports linked l.place l.name).end ≡ Err s
      → (named_links_walk outer ports linked processes (l ∷ ls)).end ≡ Err s
  named_port_broken s h = by_port ∙ end_broken (port_walk ports linked l.place l.name) next s h

  module _ (d : DeclarationTree) (is : (port_walk ports linked l.place l.name).end ≡ Ok d) where
    to_link : (named_links_walk outer ports linked processes (l ∷ ls)).end
        ≡ (optional_link outer ports d l.value >>= λ more.
        named_links_walk outer ports (linked ++ l.name ∷ []) (processes ++ more) ls).end
    unfolding next
    to_link = by_port ∙ end_after (port_walk ports linked l.place l.name) next d is

    pub named_linked : (more : List ProcessForm)
        → (optional_link outer ports d l.value).end ≡ Ok more
        → (named_links_walk outer ports linked processes (l ∷ ls)).end
        ≡ (named_links_walk outer ports (linked ++ l.name ∷ []) (processes ++ more) ls).end
    named_linked more h = to_link ∙ end_after (optional_link outer ports d l.value) _ more h

    pub named_link_broken : (s : WalkStep) → (optional_link outer ports d l.value).end ≡ Err s
        → (named_links_walk outer ports linked processes (l ∷ ls)).end ≡ Err s
    named_link_broken s h = to_link ∙ end_broken (optional_link outer ports d l.value) _ s h

pub named_none : (outer : Names) (ports : Ports) (linked : List (List ℕ))
    (processes : List ProcessForm)
    → (named_links_walk outer ports linked processes []).end ≡ Ok processes
unfolding named_links_walk
named_none outer ports linked processes = refl

-- ---- links by order

module _ (outer : Names) (ports : Ports) (processes : List ProcessForm) where
  pub ordered_none : (free : List DeclarationTree) →
      (ordered_links_walk outer ports free processes []).end ≡ Ok processes
  unfolding ordered_links_walk
  ordered_none free = refl

  pub ordered_over : (e : ExpressionTree) (es : List ExpressionTree)
      → (ordered_links_walk outer ports [] processes (e ∷ es)).end ≡ Err (links_over (place_of e))
  unfolding ordered_links_walk
  ordered_over e es = refl

  module _ (d : DeclarationTree) (free : List DeclarationTree) (e : ExpressionTree)
      (es : List ExpressionTree) where
    pub ordered_linked : (p : ProcessForm) → (link_walk outer ports d e).end ≡ Ok p
        → (ordered_links_walk outer ports (d ∷ free) processes (e ∷ es)).end
        ≡ (ordered_links_walk outer ports free (processes ++ p ∷ []) es).end
    unfolding ordered_links_walk
    ordered_linked p h = rw h refl

    pub ordered_broken : (s : WalkStep) → (link_walk outer ports d e).end ≡ Err s
        → (ordered_links_walk outer ports (d ∷ free) processes (e ∷ es)).end ≡ Err s
    unfolding ordered_links_walk
    ordered_broken s h = rw h refl

-- ---- links of either form

module _ (outer : Names) (ports : Ports) (processes : List ProcessForm) where
  pub links_by_name : (t : LinkTrees) (ls : List NamedLink) → t ≡ named_links ls
      → (links_walk outer ports processes t).end ≡
      (named_links_walk outer ports [] processes ls).end
  unfolding links_walk
  links_by_name t ls is = subst (λ (k : LinkTrees). (links_walk outer ports processes k).end
      ≡ (named_links_walk outer ports [] processes ls).end) (sym is) refl

  pub links_by_order : (t : LinkTrees) (es : List ExpressionTree) → t ≡ ordered_links es
      → (links_walk outer ports processes t).end ≡
      (ordered_links_walk outer ports ports.master.ports processes es).end
  unfolding links_walk
  links_by_order t es is = subst (λ (k : LinkTrees). (links_walk outer ports processes k).end
      ≡ (ordered_links_walk outer ports ports.master.ports processes es).end) (sym is) refl
