-- The clocked statements of a text's parts are those of its processes.
use Rattle.std.proofs.Common.{◌≡◌, ℕ, zero, suc, List, [], ◌∷◌, ◌++◌, map, Option, Some, None}
use Rattle.std.proofs.Common.{sym, ap, subst, ◌∙◌, ⊎_elim}
use Rattle.std.specs.Prelude.{Contains, option_to_list}
use Rattle.std.specs.List.{filter_map}
use Rattle.sv_system.proofs.Lists.{Contains-cases, Contains-nil}
use Rattle.sv_system.proofs.Lists.{Contains-map, Contains-from_map}
use Rattle.sv_ast.specs.Tree.{StatementTree, ItemTree, parameter_item, declared}
use Rattle.sv_ast.specs.Tree.{memory_item, continuous, released, always_item, invariant_item}
use Rattle.sv_ast.specs.Tree.{instance_item, ModuleTree}
use Rattle.sv_ast.specs.Parts.{Part, child, parts_from, links_to}
use Rattle.sv_ast.specs.Processes.{combinational, clocked, linking, combinational_body}
use Rattle.sv_ast.specs.Processes.{clocked_body, item_processes, processes_from}
use Rattle.sv_flat.proofs.Members.{Contains-either as contains_either}
use Rattle.sv_flat.proofs.Members.{Contains-right as contains_right, from_flat_map, to_flat_map}
use Rattle.sv_elab_laws.proofs.PartsNamed.{from_filter_map, to_filter_map}
use Rattle.sv_elab_laws.proofs.JoinedSources.{from_some_list, to_some_list, from_option, to_option}
use Rattle.sv_elab_laws.proofs.JoinedSources.{inner_parts, inner_instance}

module _ (modules : List ModuleTree) where
  -- an instance has the clocked statement among its items
  abbrev pub HasClocked : Part → StatementTree → Type 0
  HasClocked p s = Contains (filter_map clocked_body p.definition.items) s

  own_clocked : (p q : Part) (s : StatementTree) (a b : Option StatementTree)
      → Contains (map (combinational p) (option_to_list a) ++ map (clocked p) (option_to_list b))
      (clocked q s) → (p ≡ q) × (b ≡ Some s)
  own_clocked p q s a b at = ⊎_elim
      (λ left. let x = Contains-from_map (combinational p) (option_to_list a) (clocked q s) left in
      let e : combinational p x.0 ≡ clocked q s = x.2 in absurd (cc e))
      (λ right.
      let x = Contains-from_map (clocked p) (option_to_list b) (clocked q s) right in
      let e : clocked p x.0 ≡ clocked q s = x.2 in
      let same_part : p ≡ q = cc e in
      let same_body : x.0 ≡ s = cc e in
      (same_part, from_some_list b x.0 x.1 ∙ ap Some same_body))
      (contains_either (map (combinational p) (option_to_list a))
      (map (clocked p) (option_to_list b)) (clocked q s) at)

  item_clocked : (p q : Part) (s : StatementTree) (item : ItemTree)
      → Contains p.definition.items item
      → Contains (map (combinational p) (option_to_list (combinational_body item))
      ++ map (clocked p) (option_to_list (clocked_body item))) (clocked q s)
      → HasClocked q s
  item_clocked p q s item listed at =
      let own = own_clocked p q s (combinational_body item) (clocked_body item) at in
      subst (λ x. HasClocked x s) own.0
      (to_filter_map clocked_body p.definition.items item s listed own.1)

  pub clocked_forth : (n : ℕ) (p q : Part) (s : StatementTree) →
      Contains (processes_from n modules p) (clocked q s) → HasClocked q s
  unfolding processes_from
  clocked_forth zero p q s at = absurd (Contains-nil (clocked q s) at)
  clocked_forth (suc n) p q s at =
      let found = from_flat_map (item_processes (processes_from n modules) modules p)
      p.definition.items (clocked q s) at in
      by_item found.0 found.1 found.2 (λ c inside. clocked_forth n c q s inside)
    where
      by_item : (item : ItemTree) → Contains p.definition.items item
          → Contains (item_processes (processes_from n modules) modules p item) (clocked q s)
          → ((c : Part) → Contains (processes_from n modules c) (clocked q s) → HasClocked q s)
          → HasClocked q s
      by_item (instance_item i) listed inside rest =
          let c = from_option (λ r. map linking (links_to p r i) ++ processes_from n modules r)
          (child modules p i) (clocked q s) inside in
          ⊎_elim
          (λ mine. let k = Contains-from_map linking (links_to p c.0 i) (clocked q s) mine in
          let e : linking k.0 ≡ clocked q s = k.2 in absurd (cc e))
          (λ later. rest c.0 later)
          (contains_either (map linking (links_to p c.0 i)) (processes_from n modules c.0)
          (clocked q s) c.2)
      by_item (always_item place clock b) listed inside rest =
          item_clocked p q s (always_item place clock b) listed inside
      by_item (declared d) listed inside rest = item_clocked p q s (declared d) listed inside
      by_item (continuous ts place e) listed inside rest =
          item_clocked p q s (continuous ts place e) listed inside
      by_item (released t e to) listed inside rest =
          item_clocked p q s (released t e to) listed inside
      by_item item listed inside rest = absurd (Contains-nil (clocked q s) inside)

  pub clocked_back : (n : ℕ) (p q : Part) (s : StatementTree) → Contains (parts_from n modules p) q
      → HasClocked q s
      → Contains (processes_from n modules p) (clocked q s)
  unfolding processes_from parts_from
  clocked_back zero p q s at has = absurd (Contains-nil q at)
  clocked_back (suc n) p q s at has = ⊎_elim
      (λ is.
      let item = from_filter_map clocked_body p.definition.items s
      (subst (λ x. HasClocked x s) (sym is) has) in
      to_flat_map (item_processes (processes_from n modules) modules p) p.definition.items item.0
      (clocked q s) item.1
      (subst (λ x. Contains (item_processes (processes_from n modules) modules p item.0)
      (clocked x s)) is (by_item item.0 item.2)))
      (λ later.
      let i = inner_instance modules n p q later in
      to_flat_map (item_processes (processes_from n modules) modules p) p.definition.items
      (instance_item i.0) (clocked q s) i.2
      (to_option (λ r. map linking (links_to p r i.0) ++ processes_from n modules r)
      (child modules p i.0) i.1 (clocked q s) i.3
      (contains_right (map linking (links_to p i.1 i.0)) (processes_from n modules i.1)
      (clocked q s) (clocked_back n i.1 q s i.4 has))))
      (Contains-cases p (inner_parts modules n p) q at)
    where
      by_item : (item : ItemTree) → clocked_body item ≡ Some s →
          Contains (item_processes (processes_from n modules) modules p item) (clocked p s)
      by_item (always_item place (Some clock) b) e =
          Contains-map (clocked p) (b ∷ []) s (to_some_list (Some b) s e)
      by_item (always_item place None b) e = absurd (cc e)
      by_item (parameter_item x) e = absurd (cc e)
      by_item (declared d) e = absurd (cc e)
      by_item (memory_item m) e = absurd (cc e)
      by_item (continuous ts place x) e = absurd (cc e)
      by_item (released t x to) e = absurd (cc e)
      by_item (invariant_item place x) e = absurd (cc e)
      by_item (instance_item i) e = absurd (cc e)
