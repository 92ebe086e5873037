use Rattle.std.proofs.Common.{ℕ, ◌+◌, ◌||◌, List, ◌++◌}
use Rattle.std.proofs.Common.{drop, map, sym, ap, ◌∙◌, append_assoc}
use Rattle.std.specs.List.{list_any}
use Rattle.std.specs.Str.{bytes_eq}
use Rattle.sv_ast.specs.declared.declarations.Decl.{Decl}
use Rattle.sv_ast.specs.declared.modules.Item.{Item}
use Rattle.sv_ast.specs.Tree.{ItemTree, parameter_item, declared}
use Rattle.sv_ast.specs.Views.{declaration_tree, item_tree, parameter_tree}
use Rattle.sv_elab_rules.specs.Names.{item_declares}
use Rattle.sv_width.specs.Scopes.{Known}
use Rattle.sv_elab_decl.proofs.Lists.{more_listed}
use Rattle.sv_elab_decl.proofs.SiteLemmas.{announced_more, moved, parameters_announce_none}
use Rattle.sv_elab_decl.proofs.declarations.announced.Goals as goal

pub loop-port-init : goal.loop-port-init
loop-port-init c =
    let m = c.args.master.now in
    record {
      empty = ap (λ (k : Known). k.meanings) c.new-scope.ensures;
      later = λ n. ap (λ (k : Known). list_any (bytes_eq n) k.announced
          || list_any (item_declares n)
          (map declared (map declaration_tree m.ports.items) ++ map item_tree m.items.items))
          c.new-scope.ensures
          ∙ sym (parameters_announce_none n (map parameter_tree m.params.items)
          (map declared (map declaration_tree m.ports.items) ++ map item_tree m.items.items))
          ∙ ap (λ (is : List ItemTree). list_any (item_declares n) is)
          (sym (append_assoc (map parameter_item (map parameter_tree m.params.items))
          (map declared (map declaration_tree m.ports.items)) (map item_tree m.items.items)));
    }

pub loop-port-preserved : goal.loop-port-preserved
loop-port-preserved c =
    let m = c.args.master.now in
    let ports = m.ports.items in
    let i = c.loop-port.port-index in
    let port = c.port-item.result in
    let split = more_listed ports c.deref-port-items.result.now i port
    c.deref-port-items.ensures.value c.loop-port-test.true c.port-item.is in
    record {
      empty = c.in_ok-announce.ensures.meanings ∙ c.loop-port.invariant.empty;
      later = λ n.
          let rest = map declared (map declaration_tree (drop (i + 1) ports))
          ++ map item_tree m.items.items in
          moved (list_any (bytes_eq n) c.loop-port.scope.announced) (bytes_eq n port.name)
          (list_any (item_declares n) rest) (list_any (bytes_eq n) c.announce.new.self.announced)
          (ap (λ (ks : List (List ℕ)). list_any (bytes_eq n) ks) c.in_ok-announce.ensures.announced
          ∙ announced_more c.loop-port.scope.announced c.in_ok-copy.field-0 n
          ∙ ap (λ (k : List ℕ). list_any (bytes_eq n) c.loop-port.scope.announced || bytes_eq n k)
          c.in_ok-copy.ensures)
          ∙ ap (λ (ds : List Decl). list_any (bytes_eq n) c.loop-port.scope.announced
          || list_any (item_declares n)
          (map declared (map declaration_tree ds) ++ map item_tree m.items.items)) (sym split)
          ∙ c.loop-port.invariant.later n;
    }

pub loop-item-preserved : goal.loop-item-preserved
loop-item-preserved c =
    let items = c.args.master.now.items.items in
    let item = c.item-item.result in
    let split = more_listed items c.deref-item-items.result.now c.loop-item.item-index item
    c.deref-item-items.ensures.value c.loop-item-test.true c.item-item.is in
    record {
      empty = c.in_ok-announce_item.ensures.meanings ∙ c.loop-item.invariant.empty;
      later = λ n.
          moved (list_any (bytes_eq n) c.loop-item.scope.announced)
          (item_declares n (item_tree item))
          (list_any (item_declares n) (map item_tree (drop (c.loop-item.item-index + 1) items)))
          (list_any (bytes_eq n) c.announce_item.new.scope.announced)
          (c.in_ok-announce_item.ensures.later n)
          ∙ ap (λ (is : List Item). list_any (bytes_eq n) c.loop-item.scope.announced
          || list_any (item_declares n) (map item_tree is)) (sym split)
          ∙ c.loop-item.invariant.later n;
    }
