use Rattle.std.proofs.Common.{◌+◌, List, ◌∷◌, drop, map, subst, ap, sym, ◌∙◌}
use Rattle.std.specs.List.{list_all}
use Rattle.std.proofs.lemmas.Result.{err_from_is_err_and}
use Rattle.sv_ast.specs.declared.modules.Item.{Item}
use Rattle.sv_ast.specs.Shape.{is_shaped_item}
use Rattle.sv_ast.specs.Views.{item_tree}
use Rattle.sv_elab_decl.specs.Sites.{site_of, declared_of}
use Rattle.sv_elab_decl.proofs.Courses.{Course, course_more, course_broken, course_ends}
use Rattle.sv_elab_decl.proofs.Lists.{left_more, left_none, all_parts}
use Rattle.sv_elab_decl.proofs.declarations.declare_items.Goals as goal
use Rattle.sv_elab_decl.proofs.declarations.declare_items.Goals.{After-declare_item}

-- the walk has come to the item at hand
here : (c : After-declare_item) →
    Course c.args.site.now.base c.args.least.0 (site_of c.args.site.now)
    (declared_of c.args.declared.now) (map item_tree c.args.items.now) c.loop-item.declared
    (item_tree c.item-item.result
    ∷ map item_tree (drop (c.loop-item.item-index + 1) c.args.items.now))
here c =
    subst (λ (is : List Item).
    Course c.args.site.now.base c.args.least.0 (site_of c.args.site.now)
    (declared_of c.args.declared.now) (map item_tree c.args.items.now) c.loop-item.declared
    (map item_tree is))
    (left_more c.args.items.now c.loop-item.item-index c.item-item.result c.loop-item-test.true
    c.item-item.is) c.loop-item.invariant.course

pub returns-in_err-declare_item-clause-broken : goal.returns-in_err-declare_item-clause-broken
returns-in_err-declare_item-clause-broken c =
    let items = c.args.items.now in
    let f = c.in_err-declare_item.field-0.0 in
    let p = err_from_is_err_and c.from_residual.result c.from_residual.ensures.1 in
    rw (p.1, p.2)
    (course_broken c.args.site.now.base c.args.least.0 (site_of c.args.site.now)
    (declared_of c.args.declared.now) (map item_tree items) c.loop-item.declared
    (item_tree c.item-item.result) (map item_tree (drop (c.loop-item.item-index + 1) items)) f
    (here (goal.at.returns-in_err-declare_item-clause-broken c).After-declare_item)
    c.in_err-declare_item.ensures.broken)

pub loop-item-preserved : goal.loop-item-preserved
loop-item-preserved c =
    let base = c.args.site.now.base in
    let least = c.args.least.0 in
    let s = site_of c.args.site.now in
    let from = declared_of c.args.declared.now in
    let items = c.args.items.now in
    let all = map item_tree items in
    let i = c.loop-item.item-index in
    let item = c.item-item.result in
    let split = left_more items i item c.loop-item-test.true c.item-item.is in
    record {
      course =
          course_more base least s from all c.loop-item.declared c.declare_item.new.declared
          (item_tree item)
          (map item_tree (drop (i + 1) items))
          (here (goal.at.loop-item-preserved c).After-declare_item)
          c.in_ok-declare_item.ensures.found c.in_ok-declare_item.ensures.so_far;
      shaped = (all_parts is_shaped_item (item_tree item) (map item_tree (drop (i + 1) items))
          (ap (λ (is : List Item). list_all is_shaped_item (map item_tree is)) (sym split)
          ∙ c.loop-item.invariant.shaped)).1;
    }

pub returns-clause-found : goal.returns-clause-found
returns-clause-found c =
    let items = c.args.items.now in
    let none = left_none items c.loop-item.item-index c.loop-item-test.false in
    course_ends c.args.site.now.base c.args.least.0 (site_of c.args.site.now)
    (declared_of c.args.declared.now)
    (map item_tree items) c.loop-item.declared
    (subst (λ (is : List Item). Course c.args.site.now.base c.args.least.0 (site_of c.args.site.now)
    (declared_of c.args.declared.now) (map item_tree items) c.loop-item.declared (map item_tree is))
    none c.loop-item.invariant.course)
