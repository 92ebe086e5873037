use Rattle.std.proofs.Common.{length, min, ap, ◌∙◌, lt-ltb}
use Rattle.sv_flat.specs.ByNumber.{signal_forms}
use Rattle.sv_flat.specs.Views.{design_of}
use Rattle.sv_graph.specs.Marks.{followed_in}
use Rattle.sv_blast.proofs.FollowedTargets.{IsTarget, found_target, target_size}
use Rattle.sv_blast.proofs.KnownSignals.{known_signal}
use Rattle.sv_blast.proofs.followed_sizes.followed_size.Goals as goal
use Rattle.sv_blast.proofs.followed_sizes.followed_size.Goals.{After-new-followed}

-- the signal with its process, as it is followed
target : (c : After-new-followed) →
    IsTarget (design_of c.args.design.now) c.args.target.0 c.args.body.now c.new-followed.result
target c =
    let design = design_of c.args.design.now in
    let s = c.args.target.0 in
    found_target design c.in_ok-follows.ensures.design s c.args.body c.requires.body
    c.new-followed.result (ap signal_forms c.new-followed.ensures.signals)
    c.new-followed.ensures.reads
    (λ p at own. ap followed_in (c.new-followed.ensures.follows ∙ c.deref.ensures.value)
    ∙ c.in_ok-follows.ensures.follows p at own)
    (lt-ltb s (length design.signals) (known_signal c.args.design.now s c.requires.known))
    c.requires.driven

pub size-requires-clause-tells : goal.size-requires-clause-tells
size-requires-clause-tells c =
    ((target (goal.at.size-requires-clause-tells c).After-new-followed).body).tells

pub returns : goal.returns
returns c =
    c.size.ensures
    ∙ ap (λ n. min n 4194305)
    (target_size (design_of c.args.design.now) c.args.target.0 c.args.body.now
    c.new-followed.result (target (goal.at.returns c).After-new-followed))
