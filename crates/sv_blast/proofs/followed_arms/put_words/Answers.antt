use Rattle.std.proofs.Common.{◌++◌, ap, ◌∙◌}
use Rattle.std.specs.Prelude.{option_to_list}
use Rattle.sv_blast.specs.WordTables.{words_of}
use Rattle.sv_blast.proofs.FollowedLoops.{put_more}
use Rattle.sv_blast.proofs.followed_arms.put_words.Goals as goal

pub others-preserved : goal.others-preserved
others-preserved c =
    let left = c.pop.new.self.items in
    put_more _ c.others.others.items left c.in-Some.other (words_of c.others.words) _
    c.others.invariant (c.pop.ensures.items ∙ ap (λ o. left ++ option_to_list o) c.in-Some.is)
    c.in_ok-put.ensures
