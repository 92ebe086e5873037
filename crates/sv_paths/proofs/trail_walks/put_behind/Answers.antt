use Rattle.std.proofs.Common.{sym, ◌∙◌, arith, rules}
use Rattle.std.proofs.lemmas.List.{length-map}
use Rattle.sv_flat.specs.Views.{typed_tree}
use Rattle.sv_paths.specs.Trails.{marked_by}
use Rattle.sv_paths.specs.TrailViews.{trail_form, trail_forms}
use Rattle.sv_paths.proofs.RouteFacts.{one_changed}
use Rattle.sv_paths.proofs.trail_walks.put_behind.Goals as goal

pub loop-i-preserved : goal.loop-i-preserved
loop-i-preserved c =
    record {
      trails = one_changed trail_form
          (marked_by c.args.count c.args.mark (typed_tree c.args.cond.now))
          (trail_forms c.args.all.now.items) c.loop-i.all.items c.args.start c.loop-i.i
          c.index_mut-trail.result.now _ (omega arith) (omega arith)
          (c.loop-i.invariant.count ∙ sym (length-map c.args.all.now.items trail_form))
          c.index_mut-trail.ensures.value c.in_ok-add_mark.ensures c.loop-i.invariant.trails;
      count = search rules;
    }
