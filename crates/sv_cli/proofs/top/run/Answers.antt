use Rattle.std.proofs.Common.{◌≡◌, ℕ, List, ◌++◌, refl, subst, ap}
use Rattle.std.specs.Prelude.{IsSome}
use Rattle.sv_io.specs.Traffic.{files_by, input_by, output_by}
use Rattle.sv_sim_run.specs.Simulated.{level_asked}
use Rattle.sv_words.specs.Words.{words_of}
use Rattle.sv_cli.specs.declared.outcome.Outcome.TheVariants as outcome
use Rattle.sv_cli.specs.Answer.{answer_of, done, views_differ}
use Rattle.sv_cli.specs.Command.{top_in, Claims}
use Rattle.sv_cli.specs.Prepared.{IsSimulationWith, Explains}
use Rattle.sv_cli.specs.Texts.{HasValidObligations, KeepsSecrets}
use Rattle.sv_cli.proofs.Telling.{runs_told, runs_silent, text_told, text_of_asked, done_told}
use Rattle.sv_cli.proofs.Telling.{views_told, same_request, same_untouched}
use Rattle.sv_cli.proofs.top.run.Goals as goal

pub returns-in-Ok-clause-runs : goal.returns-in-Ok-clause-runs
returns-in-Ok-clause-runs g c =
    let C = g.C.Cabinet in
    let S = g.S.Source in
    let K = g.K.Sink in
    runs_told C.tells S.tells (words_of c.args.words.now)
    (record {
      files = files_by C.exchanges C.held C.fetch_faults C.store_faults c.args.cabinet.now;
      input = input_by S.given S.left S.ended S.faults c.args.input.now;
      output = output_by K.accepted K.faults c.args.out.now;
    })
    (record {
      files = files_by C.exchanges C.held C.fetch_faults C.store_faults c.prepare.new.cabinet;
      input = input_by S.given S.left S.ended S.faults c.perform.new.input;
      output = output_by K.accepted K.faults c.perform.new.out;
    })
    c.perform.result c.in-Ok.prepared c.in-Ok.ensures c.perform.ensures.performed
    c.perform.ensures.to_the_end c.perform.ensures.front_to_the_end c.perform.ensures.unfailed
    c.perform.ensures.read_fault c.perform.ensures.write_fault
    (same_untouched S.given S.left S.ended S.faults c.args.input.now c.perform.new.input
    (IsSimulationWith (λ level design. IsSome (level_asked design level)) c.in-Ok.prepared)
    c.perform.ensures.input_unchanged)
    c.perform.ensures.most

pub returns-in-Ok-clause-noninterference : goal.returns-in-Ok-clause-noninterference
returns-in-Ok-clause-noninterference g c is_done request asked claims =
    let C = g.C.Cabinet in
    let S = g.S.Source in
    let K = g.K.Sink in
    let words = words_of c.args.words.now in
    text_of_asked words (C.exchanges c.args.cabinet.now) (C.exchanges c.prepare.new.cabinet)
    (λ r text. KeepsSecrets (top_in r) text) request asked
    (text_told C.tells words
    (files_by C.exchanges C.held C.fetch_faults C.store_faults c.args.cabinet.now)
    (files_by C.exchanges C.held C.fetch_faults C.store_faults c.prepare.new.cabinet)
    c.in-Ok.prepared c.in-Ok.ensures c.perform.result
    (λ (s : List ℕ). S.given c.perform.new.input ≡ S.given c.args.input.now ++ s)
    (λ (p : List ℕ). K.accepted c.perform.new.out ≡ K.accepted c.args.out.now ++ p)
    c.perform.ensures.performed.answer done done_told (ap answer_of is_done)
    (λ r text. KeepsSecrets (top_in r) text)
    (λ r exchanges s p is. c.accepted_texts_keep_secrets.ensures.secrets r exchanges s p
    (subst Claims (same_request words request r asked is) claims)))

pub returns-in-Ok-clause-valid : goal.returns-in-Ok-clause-valid
returns-in-Ok-clause-valid g c is_done request asked claims =
    let C = g.C.Cabinet in
    let S = g.S.Source in
    let K = g.K.Sink in
    let words = words_of c.args.words.now in
    text_of_asked words (C.exchanges c.args.cabinet.now) (C.exchanges c.prepare.new.cabinet)
    (λ r text. HasValidObligations (top_in r) text) request asked
    (text_told C.tells words
    (files_by C.exchanges C.held C.fetch_faults C.store_faults c.args.cabinet.now)
    (files_by C.exchanges C.held C.fetch_faults C.store_faults c.prepare.new.cabinet)
    c.in-Ok.prepared c.in-Ok.ensures c.perform.result
    (λ (s : List ℕ). S.given c.perform.new.input ≡ S.given c.args.input.now ++ s)
    (λ (p : List ℕ). K.accepted c.perform.new.out ≡ K.accepted c.args.out.now ++ p)
    c.perform.ensures.performed.answer done done_told (ap answer_of is_done)
    (λ r text. HasValidObligations (top_in r) text)
    (λ r exchanges s p is. c.accepted_texts_keep_secrets.ensures.valid r exchanges s p
    (subst Claims (same_request words request r asked is) claims)))

pub returns-in-Ok-clause-no_leak : goal.returns-in-Ok-clause-no_leak
returns-in-Ok-clause-no_leak g c cycle signal told =
    let C = g.C.Cabinet in
    let S = g.S.Source in
    let K = g.K.Sink in
    text_told C.tells (words_of c.args.words.now)
    (files_by C.exchanges C.held C.fetch_faults C.store_faults c.args.cabinet.now)
    (files_by C.exchanges C.held C.fetch_faults C.store_faults c.prepare.new.cabinet)
    c.in-Ok.prepared c.in-Ok.ensures c.perform.result
    (λ (s : List ℕ). S.given c.perform.new.input ≡ S.given c.args.input.now ++ s)
    (λ (p : List ℕ). K.accepted c.perform.new.out ≡ K.accepted c.args.out.now ++ p)
    c.perform.ensures.performed.answer (views_differ cycle signal) (views_told cycle signal) told
    (λ request text. KeepsSecrets (top_in request) text → ⊥)
    (λ request exchanges s p asked.
    c.secret_keepers_show_no_leak.ensures request exchanges s p cycle signal)

pub returns-in-Err-Unread-clause-runs : goal.returns-in-Err-Unread-clause-runs
returns-in-Err-Unread-clause-runs g c =
    let C = g.C.Cabinet in
    let S = g.S.Source in
    let K = g.K.Sink in
    let old = files_by C.exchanges C.held C.fetch_faults C.store_faults c.args.cabinet.now in
    let new = files_by C.exchanges C.held C.fetch_faults C.store_faults c.prepare.new.cabinet in
    let ready = c.in-Err-Unread.ensures in
    runs_silent C.tells S.tells (words_of c.args.words.now) old new
    (input_by S.given S.left S.ended S.faults c.args.input.now)
    (output_by K.accepted K.faults c.args.out.now) outcome.ReadFault c.in-Err-Unread.field-0 ready
    refl
    (λ is. subst (Explains old new ready.exchanges) c.in-Err-Unread.field-0-is ready.fault)
    (λ is. absurd cc)

pub returns-in-Err-Unwritten-clause-runs : goal.returns-in-Err-Unwritten-clause-runs
returns-in-Err-Unwritten-clause-runs g c =
    let C = g.C.Cabinet in
    let S = g.S.Source in
    let K = g.K.Sink in
    let old = files_by C.exchanges C.held C.fetch_faults C.store_faults c.args.cabinet.now in
    let new = files_by C.exchanges C.held C.fetch_faults C.store_faults c.prepare.new.cabinet in
    let ready = c.in-Err-Unwritten.ensures in
    runs_silent C.tells S.tells (words_of c.args.words.now) old new
    (input_by S.given S.left S.ended S.faults c.args.input.now)
    (output_by K.accepted K.faults c.args.out.now) outcome.WriteFault c.in-Err-Unwritten.field-0
    ready refl (λ is. absurd cc)
    (λ is. subst (Explains old new ready.exchanges) c.in-Err-Unwritten.field-0-is ready.fault)

pub returns-in-Err-OutOfMemory-clause-runs : goal.returns-in-Err-OutOfMemory-clause-runs
returns-in-Err-OutOfMemory-clause-runs g c =
    let C = g.C.Cabinet in
    let S = g.S.Source in
    let K = g.K.Sink in
    runs_silent C.tells S.tells (words_of c.args.words.now)
    (files_by C.exchanges C.held C.fetch_faults C.store_faults c.args.cabinet.now)
    (files_by C.exchanges C.held C.fetch_faults C.store_faults c.prepare.new.cabinet)
    (input_by S.given S.left S.ended S.faults c.args.input.now)
    (output_by K.accepted K.faults c.args.out.now) outcome.OutOfMemory
    c.in-Err-OutOfMemory.field-0 c.in-Err-OutOfMemory.ensures refl (λ is. absurd cc)
    (λ is. absurd cc)
