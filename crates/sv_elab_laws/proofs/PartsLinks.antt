-- What the walk of an instance's links adds: a process for each link of the source.
use Rattle.std.proofs.Common.{◌≡◌, ℕ, Bool, true, false, cond, List, []}
use Rattle.std.proofs.Common.{◌∷◌, ◌++◌, map, Option, Some, None, refl, sym, ap, subst, ◌∙◌}
use Rattle.std.proofs.Common.{arith, ⊎_elim}
use Rattle.std.specs.Prelude.{not, find, zip, Contains, Ok, option_map}
use Rattle.std.specs.List.{slice_get, list_any, filter_map, cons_option, AllZip}
use Rattle.std.specs.Str.{bytes_eq}
use Rattle.std.proofs.lemmas.Bool.{cases_Bool, false≢true}
use Rattle.std.proofs.lemmas.List.{append_assoc, append-nil}
use Rattle.sv_system.proofs.Lists.{Contains-head, Contains-later, Contains-cases, Contains-nil}
use Rattle.sv_ast.specs.Tree.{ExpressionTree, DeclarationTree, NamedLink, LinkTrees, named_links}
use Rattle.sv_ast.specs.Tree.{ordered_links, InstanceTree, ModuleTree}
use Rattle.sv_ast.specs.Instances.{port_named, linked_ports, whole_signal}
use Rattle.sv_ast.specs.ClockPaths.{is_input_kind}
use Rattle.sv_ast.specs.Parts.{Part, PartSignal, declaration_of, PortLink, port_link}
use Rattle.sv_ast.specs.Parts.{links_to}
use Rattle.sv_ast.specs.Processes.{linking}
use Rattle.sv_ast.specs.GrammarModules.{place_of}
use Rattle.sv_flat.specs.Design.{ProcessForm}
use Rattle.sv_elab_rules.specs.Walks.{Walk, done, ask, found}
use Rattle.sv_elab_rules.specs.Rules.{wrong_link}
use Rattle.sv_elab_rules.specs.Names.{Names}
use Rattle.sv_elab_rules.specs.ExpressionSteps.{expression_walk}
use Rattle.sv_elab_rules.specs.Links.{Ports, port_number, port_width, input_link, output_link, link_walk}
use Rattle.sv_elab_rules.specs.Links.{optional_link, named_links_walk, ordered_links_walk, links_walk}
use Rattle.sv_elab_rules.specs.LabelSteps.{SharedTables}
use Rattle.sv_elab_rules.proofs.WalkLemmas.{parts_done, found_some}
use Rattle.sv_elab_laws.proofs.PartsLists.{zip_append, filter_map_append, contains_get, get_contains}
use Rattle.sv_elab_laws.proofs.PartsLists.{get_left}
use Rattle.sv_elab_laws.proofs.PartsBindings.{same_name, name_itself}
use Rattle.sv_elab_laws.proofs.PartsDeclared.{same_ok}
use Rattle.sv_elab_laws.proofs.PartsNamed.{IsNamed, found_place, find_passes}
use Rattle.sv_elab_laws.specs.SideBySide.{clock_of}
use Rattle.sv_elab_laws.proofs.PartsGrown.{IsLink, IsFlat}

-- a link is no clocked process
link_clock : (outer : Names) (ports : Ports) (d : DeclarationTree) (e : ExpressionTree)
    (f : ProcessForm) → (b : Bool)
    → (elim b as (λ x. Walk ProcessForm) [
      | true ↦ input_link outer ports d e
      | false ↦
          output_link outer ports d e
    ]).end ≡ Ok f
    → clock_of f ≡ None
unfolding input_link output_link
link_clock outer ports d e f true h =
    let first = parts_done (expression_walk outer e (port_width ports d)) _ f h in
    subst (λ z. clock_of z ≡ None) (same_ok _ f first.2) refl
link_clock outer ports d e f false h =
    let first = parts_done (found (whole_signal outer.scope e) (wrong_link (place_of e) d.name))
    _ f h in
    subst (λ z. clock_of z ≡ None) (same_ok _ f first.2) refl

link_is_no_clock : (outer : Names) (ports : Ports) (d : DeclarationTree) (e : ExpressionTree)
    (f : ProcessForm)
    → (link_walk outer ports d e).end ≡ Ok f → clock_of f ≡ None
unfolding link_walk
link_is_no_clock outer ports d e f h = link_clock outer ports d e f (is_input_kind d.kind) h

pub find_some : {X : Type 0} (test : X → Bool) (xs : List X) (x : X) → Contains xs x →
    test x ≡ true → (y : X) × (find test xs ≡ Some y)
find_some test [] x at h = absurd (Contains-nil x at)
find_some test (z ∷ xs) x at h = ⊎_elim
    (λ yes'. (z, ap (λ b. cond b (Some z) (find test xs)) yes'))
    (λ no'. ⊎_elim
    (λ is. absurd (false≢true (sym no' ∙ ap test is ∙ h)))
    (λ inside. let rest = find_some test xs x inside h in
    (rest.0, ap (λ b. cond b (Some z) (find test xs)) no' ∙ rest.1))
    (Contains-cases z xs x at))
    (cases_Bool (test z))

cons_split : (o : Option PortLink) (rest : List PortLink) →
    map linking (cons_option o rest) ≡ map linking (cons_option o []) ++ map linking rest
cons_split (Some l) rest = refl
cons_split None rest = refl

module _ (tables : SharedTables) (sources : List PartSignal) (everything : List Part) (p q : Part)
    (outer inner : Names)
    (outer_named : IsNamed sources everything p outer)
    (inner_named : IsNamed sources everything q inner)
    (ports : Ports) (master : ports.master ≡ q.definition)
    (agree : (n : List ℕ) (d : DeclarationTree) → port_named q.definition n ≡ Some d
    → (port_number ports d.name ≡ inner.number d.name)
    × (ports.scope d.name ≡ inner.scope d.name)) where
  -- a port is the first of its name
  port_first : (d : DeclarationTree) → Contains q.definition.ports d →
      port_named q.definition d.name ≡ Some d
  port_first d listed =
      let test : DeclarationTree → Bool = λ (x : DeclarationTree). bytes_eq d.name x.name in
      let some = find_some test q.definition.ports d listed (name_itself d.name) in
      let other = some.0 in
      let name : d.name ≡ other.name =
      same_name d.name other.name (find_passes test q.definition.ports other some.1) in
      let there = found_place test q.definition.ports other some.1 in
      let here = contains_get q.definition.ports d listed in
      let rest = filter_map declaration_of q.definition.items in
      let first =
      (inner_named.known here.0 d (get_left q.definition.ports rest here.0 d here.1)).1 in
      let second =
      (inner_named.known there.0 other
      (get_left q.definition.ports rest there.0 other there.2)).1 in
      let numbers : inner.number d.name ≡ inner.number other.name = ap inner.number name in
      let place : there.0 ≡ here.0 = omega arith in
      some.1 ∙ sym there.2 ∙ ap (slice_get q.definition.ports) place ∙ here.1

  abbrev link_of : DeclarationTree → ExpressionTree → PortLink
  link_of d e = record { outer = p; inner = q; port = d; expression = e }

  link_flat : (n : List ℕ) (d : DeclarationTree) (e : ExpressionTree) (f : ProcessForm)
      → port_named q.definition n ≡ Some d
      → (link_walk outer ports d e).end ≡ Ok f → IsLink tables sources everything (link_of d e) f
  link_flat n d e f named walked =
      let place = found_place (λ (x : DeclarationTree).
      bytes_eq n x.name) q.definition.ports d named in record {
        outer = outer;
        inner = inner;
        outer_named = outer_named;
        inner_named = inner_named;
        ports = ports;
        number = (agree n d named).0;
        stands = (agree n d named).1;
        listed = get_contains q.definition.ports place.0 d place.2;
        walked = walked;
      }

  -- some links of the source, and the processes that are theirs
  abbrev LinksAre : List (List ℕ × Option ExpressionTree) → List ProcessForm → Type 0
  LinksAre pairs fs =
      AllZip (IsFlat tables sources everything) (map linking (filter_map (port_link p q) pairs)) fs
      × (filter_map clock_of fs ≡ [])

  links_more : (pair : List ℕ × Option ExpressionTree)
      (pairs : List (List ℕ × Option ExpressionTree)) (fs gs : List ProcessForm)
      → LinksAre (pair ∷ []) fs → LinksAre pairs gs → LinksAre (pair ∷ pairs) (fs ++ gs)
  links_more pair pairs fs gs h k = (
    subst (λ xs. AllZip (IsFlat tables sources everything) xs (fs ++ gs))
        (sym (cons_split (port_link p q pair) (filter_map (port_link p q) pairs)))
        (zip_append (IsFlat tables sources everything)
        (map linking (cons_option (port_link p q pair) []))
        (map linking (filter_map (port_link p q) pairs)) fs gs h.0 k.0),
    filter_map_append clock_of fs gs ∙ ap (λ xs. xs ++ filter_map clock_of gs) h.1 ∙ k.1,
  )

  one_link : (n : List ℕ) (d : DeclarationTree) (e : ExpressionTree) (f : ProcessForm)
      → port_named q.definition n ≡ Some d
      → (link_walk outer ports d e).end ≡ Ok f → LinksAre ((n, Some e) ∷ []) (f ∷ [])
  one_link n d e f named walked = (
    subst (λ o. AllZip (IsFlat tables sources everything)
        (map linking (cons_option (option_map (λ (x : DeclarationTree). link_of x e) o) []))
        (f ∷ []))
        (sym named) (link_flat n d e f named walked, tt),
    ap (λ o. cons_option o []) (link_is_no_clock outer ports d e f walked),
  )

  optional_done : (n : List ℕ) (d : DeclarationTree) (v : Option ExpressionTree)
      (fs : List ProcessForm) → port_named q.definition n ≡ Some d
      → (optional_link outer ports d v).end ≡ Ok fs → LinksAre ((n, v) ∷ []) fs
  unfolding optional_link
  optional_done n d None fs named h = subst (LinksAre ((n, None) ∷ [])) (same_ok [] fs h) (tt, refl)
  optional_done n d (Some e) fs named h =
      let first = parts_done (link_walk outer ports d e) _ fs h in
      subst (LinksAre ((n, Some e) ∷ [])) (same_ok (first.0 ∷ []) fs first.2)
      (one_link n d e first.0 named first.1)

  -- the processes after some others
  record LinksDone (before after : List ProcessForm)
      (pairs : List (List ℕ × Option ExpressionTree)) : Type 0 where
    pub bodies : List ProcessForm
    pub behind : after ≡ before ++ bodies
    pub links : LinksAre pairs bodies

  no_links : (before after : List ProcessForm) → (done before).end ≡ Ok after →
      LinksDone before after []
  no_links before after h =
      record {
        bodies = [];
        behind = sym (same_ok before after h) ∙ sym (append-nil before);
        links = (tt, refl);
      }

  links_join : (before fs after : List ProcessForm) (pair : List ℕ
      × Option ExpressionTree) (pairs : List (List ℕ × Option ExpressionTree))
      → LinksAre (pair ∷ []) fs → LinksDone (before ++ fs) after pairs
      → LinksDone before after (pair ∷ pairs)
  links_join before fs after pair pairs h k = record {
    bodies = fs ++ k.bodies;
    behind = k.behind ∙ append_assoc before fs k.bodies;
    links = links_more pair pairs fs k.bodies h k.links;
  }

  master_port : (n : List ℕ) (d : DeclarationTree) → port_named ports.master n ≡ Some d →
      port_named q.definition n ≡ Some d
  master_port n d h = ap (λ m. port_named m n) (sym master) ∙ h

  named_done : (ls : List NamedLink) (linked : List (List ℕ)) (before after : List ProcessForm)
      → (named_links_walk outer ports linked before ls).end ≡ Ok after
      → LinksDone before after (map (λ (l : NamedLink). (l.name, l.value)) ls)
  unfolding named_links_walk
  named_done [] linked before after h = no_links before after h
  named_done (l ∷ ls) linked before after h =
      let port = parts_done (found (port_named ports.master l.name) (wrong_link l.place l.name)) _
      after h in
      let fresh = parts_done
      (ask (not (list_any (bytes_eq l.name) linked)) (wrong_link l.place l.name)) _ after
      port.2 in
      let link = parts_done (optional_link outer ports port.0 l.value)
      (λ more. named_links_walk outer ports (linked ++ l.name ∷ []) (before ++ more) ls) after
      fresh.2 in
      let d = master_port l.name port.0
      (found_some (port_named ports.master l.name) (wrong_link l.place l.name) port.0 port.1) in
      links_join before link.0 after (l.name, l.value)
      (map (λ (x : NamedLink). (x.name, x.value)) ls)
      (optional_done l.name port.0 l.value link.0 d link.1)
      (named_done ls (linked ++ l.name ∷ []) (before ++ link.0) after link.2)

  ordered_done : (es : List ExpressionTree) (free : List DeclarationTree)
      (before after : List ProcessForm)
      → ((d : DeclarationTree) → Contains free d → Contains q.definition.ports d)
      → (ordered_links_walk outer ports free before es).end ≡ Ok after
      → LinksDone before after (zip (map (λ (d : DeclarationTree). d.name) free) (map Some es))
  unfolding ordered_links_walk
  ordered_done [] [] before after within h = no_links before after h
  ordered_done [] (d ∷ free) before after within h = no_links before after h
  ordered_done (e ∷ es) [] before after within h = absurd (cc h)
  ordered_done (e ∷ es) (d ∷ free) before after within h =
      let link = parts_done (link_walk outer ports d e) (λ f.
      ordered_links_walk outer ports free (before ++ f ∷ []) es) after h in
      links_join before (link.0 ∷ []) after (d.name, Some e)
      (zip (map (λ (x : DeclarationTree). x.name) free) (map Some es))
      (one_link d.name d e link.0 (port_first d (within d (Contains-head d free))) link.1)
      (ordered_done es free (before ++ link.0 ∷ []) after (λ x at.
      within x (Contains-later d free x at)) link.2)

  pub links_done : (i : InstanceTree) (before after : List ProcessForm)
      → (links_walk outer ports before i.links).end ≡ Ok after
      → (fs : List ProcessForm) × (after ≡ before ++ fs)
      × AllZip (IsFlat tables sources everything) (map linking (links_to p q i)) fs
      × (filter_map clock_of fs ≡ [])
  unfolding links_walk
  links_done i before after = by_links i.links
    where
      by_links : (links : LinkTrees) → (links_walk outer ports before links).end ≡ Ok after
          → (fs : List ProcessForm) × (after ≡ before ++ fs)
          × AllZip (IsFlat tables sources everything)
          (map linking (filter_map (port_link p q) (linked_ports q.definition links))) fs
          × (filter_map clock_of fs ≡ [])
      by_links (named_links ls) h =
          let all = named_done ls [] before after h in
          (all.bodies, all.behind, all.links.0, all.links.1)
      by_links (ordered_links es) h =
          let all = ordered_done es ports.master.ports before after (λ d at.
          subst (λ m. Contains m.ports d) master at) h in
          let same = subst (λ (m : ModuleTree).
          LinksDone before after
          (zip (map (λ (d : DeclarationTree). d.name) m.ports) (map Some es))) master all in
          (same.bodies, same.behind, same.links.0, same.links.1)
