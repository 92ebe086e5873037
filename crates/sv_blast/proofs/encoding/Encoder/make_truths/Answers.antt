use Rattle.std.proofs.Common.{◌≡◌, suc, ◌∷◌, length, drop, None, sym, subst, arith}
use Rattle.std.specs.Prelude.{slice_get}
use Rattle.sv_flat.specs.Views.{typed_tree}
use Rattle.sv_encoding.specs.Cones.{conditions_of}
use Rattle.sv_blast.specs.Encoders.{obligation_in}
use Rattle.sv_blast.proofs.KeptTruths.{drop_at, drop_past, first_all}
use Rattle.sv_blast.proofs.encoding.Encoder.make_truths.Goals as goal

pub add_truth-requires-clause-next : goal.add_truth-requires-clause-next
add_truth-requires-clause-next c =
    let es = conditions_of (obligation_in c.args.self.now) in
    let e = typed_tree c.in-Some.expr.now in
    let count : c.len.result ≡ length c.truths.made.truths.items = omega arith in
    subst (λ n. drop n es ≡ e ∷ drop (suc n) es) count
    (drop_at es c.len.result e (sym c.in-Some.ensures))

pub returns-clause-all : goal.returns-clause-all
returns-clause-all c =
    let es = conditions_of (obligation_in c.args.self.now) in
    let count : c.len.result ≡ length c.truths.made.truths.items = omega arith in
    first_all c.truths.made.truths.items es c.truths.invariant.first
    (drop_past es (length c.truths.made.truths.items)
    (subst (λ n. slice_get es n ≡ None) count (sym c.in_default.ensures)))
