-- Of every command two right answers are one, or both decide obligations.
use Rattle.std.proofs.Common.{◌∙◌, ℕ, Bool, inl, inr, List, [], Option, None, refl, sym}
use Rattle.std.proofs.Common.{subst}
use Rattle.std.proofs.lemmas.Bool.{both_ways}
use Rattle.sv_flat.specs.Design.{FlatDesign}
use Rattle.sv_io.specs.Exchange.{Exchange}
use Rattle.sv_gen.specs.Sample.{sample_text}
use Rattle.sv_words.specs.Words.{Request, check, verify, list, cnf, sim, compare, gen}
use Rattle.sv_words.specs.Words.{default_budget}
use Rattle.sv_report.specs.declared.styles.Style.{Style}
use Rattle.sv_report.specs.declared.styles.Style.TheVariants.{Lines}
use Rattle.sv_cli.specs.Answer.{Answer}
use Rattle.sv_cli.specs.Checks as checks
use Rattle.sv_cli.specs.Checks.{Checks, Decides}
use Rattle.sv_cli.specs.Command.{style_in}
use Rattle.sv_cli.specs.Dialogues.{own_part}
use Rattle.sv_cli.specs.Generates as generates
use Rattle.sv_cli.specs.Generates.{Generates, ChecksSample}
use Rattle.sv_cli.specs.Texts.{Passes, RefusesText}
use Rattle.sv_cli.specs.Uniqueness.{IsSure, IsDecision, AreOneOrDecisions, HasOneAnswer}
use Rattle.sv_cli.specs.Uniqueness.{HasSureRefusals}
use Rattle.sv_cli.proofs.OneAnswer.{few_or_many, one_excess, alike_after_text}
use Rattle.sv_cli.proofs.OneCertificate.{one_limit}
use Rattle.sv_cli.proofs.OneRule.{one_design, passes_all, one_refusal}

-- ---- of a design

module _ (style : Style) (proof : Option (List ℕ)) (budget : ℕ) (design : FlatDesign)
    (exchanges : List Exchange) where
  is_decision : (answer : Answer) (printed : List ℕ)
      → Decides style proof budget design exchanges answer printed → IsDecision answer
  is_decision answer printed (checks.accepts stores told) =
      subst IsDecision (sym told.answers) tt
  is_decision answer printed (checks.falsifies none told) =
      subst IsDecision (sym told.answers) tt
  is_decision answer printed (checks.too_large none told) =
      subst IsDecision (sym told.tells.answers) refl
  is_decision answer printed (checks.spends none told) =
      subst IsDecision (sym told.answers) tt

  two_checks : (answer other : Answer) (printed others : List ℕ)
      → Checks style proof budget design exchanges answer printed
      → Checks style proof budget design exchanges other others
      → AreOneOrDecisions answer other printed others
  two_checks answer other printed others (checks.exceeds none a) (checks.exceeds none' b) =
      inl (inl (one_excess design style answer other printed others a b))
  two_checks answer other printed others (checks.exceeds none a) (checks.decides few b) =
      absurd (few_or_many design style answer printed few a)
  two_checks answer other printed others (checks.decides few a) (checks.exceeds none b) =
      absurd (few_or_many design style other others few b)
  two_checks answer other printed others (checks.decides few a) (checks.decides few' b) =
      inr (is_decision answer printed a, is_decision other others b)

-- ---- of a text

module _ (style : Style) (proof : Option (List ℕ)) (budget : ℕ) (top : Option (List ℕ))
    (text : List ℕ) (exchanges : List Exchange) (answer other : Answer)
    (printed others : List ℕ) where
  two_of_text : (p q : Passes top text)
      → Checks style proof budget p.design exchanges answer printed
      → Checks style proof budget q.design exchanges other others
      → AreOneOrDecisions answer other printed others
  two_of_text p q a b =
      two_checks style proof budget p.design exchanges answer other printed others a
      (subst (λ (d : FlatDesign). Checks style proof budget d exchanges other others)
      (one_design top text q.design p.design q.stands p.stands) b)

-- ---- of a sample

module _ (lanes : ℕ) where
  refused_or_passes : (answer : Answer) (printed : List ℕ)
      → RefusesText Lines None (sample_text lanes) answer printed
      → Passes None (sample_text lanes) → ⊥
  refused_or_passes answer printed told passes =
      passes_all None (sample_text lanes) passes told.number told.place told.names told.broken

  two_of_sample : (answer other : Answer) (printed others : List ℕ)
      → ChecksSample lanes answer printed → ChecksSample lanes other others
      → AreOneOrDecisions answer other printed others
  two_of_sample answer other printed others (generates.refused a) (generates.refused b) =
      inl (one_refusal None Lines (sample_text lanes) answer other printed others a b)
  two_of_sample answer other printed others (generates.refused a) (generates.checked q b) =
      absurd (refused_or_passes answer printed a q)
  two_of_sample answer other printed others (generates.checked p a) (generates.refused b) =
      absurd (refused_or_passes other others b p)
  two_of_sample answer other printed others (generates.checked p a) (generates.checked q b) =
      two_of_text Lines None default_budget None (sample_text lanes) [] answer other printed others
      p q a b

module _ (lanes : ℕ) (judges : Bool) (answer other : Answer) (printed others : List ℕ) where
  two_samples : Generates lanes judges answer printed → Generates lanes judges other others
      → AreOneOrDecisions answer other printed others
  two_samples (generates.no_sample few a) (generates.no_sample few' b) =
      inl (inl (one_limit Lines 705 705 [] [] answer other printed others refl refl a b))
  two_samples (generates.no_sample few a) (generates.printed has is b) = absurd (few has)
  two_samples (generates.no_sample few a) (generates.judged has is b) = absurd (few has)
  two_samples (generates.printed has is a) (generates.no_sample few b) = absurd (few has)
  two_samples (generates.printed has is a) (generates.printed has' is' b) =
      inl (inl (b.answers ∙ sym a.answers, b.prints ∙ sym a.prints))
  two_samples (generates.printed has is a) (generates.judged has' asked b) =
      absurd (both_ways judges is asked)
  two_samples (generates.judged has asked a) (generates.no_sample few b) = absurd (few has)
  two_samples (generates.judged has asked a) (generates.printed has' is b) =
      absurd (both_ways judges is asked)
  two_samples (generates.judged has asked a) (generates.judged has' asked' b) =
      two_of_sample lanes answer other printed others a b

-- ---- of a command

module _ (law : (request : Request) → IsSure request → HasOneAnswer request) where
  pub sure_refusals : (request : Request) → HasSureRefusals request
  sure_refusals (check file proof budget top json) exchanges stimulus answer other printed others
      a b =
      let request = check file proof budget top json in
      alike_after_text (style_in request) file top (own_part request stimulus) exchanges answer
      other printed others (AreOneOrDecisions answer other printed others) (λ one. inl one)
      (λ text p q rest x y.
      two_of_text (style_in request) proof budget top text rest answer other printed others p q x
      y)
      a b
  sure_refusals (verify file proof top) exchanges stimulus answer other printed others a b =
      inl (law (verify file proof top) tt exchanges stimulus answer other printed others a b)
  sure_refusals (list file top) exchanges stimulus answer other printed others a b =
      inl (law (list file top) tt exchanges stimulus answer other printed others a b)
  sure_refusals (cnf file number top) exchanges stimulus answer other printed others a b =
      inl (law (cnf file number top) tt exchanges stimulus answer other printed others a b)
  sure_refusals (sim file level order top) exchanges stimulus answer other printed others a b =
      inl (law (sim file level order top) tt exchanges stimulus answer other printed others a b)
  sure_refusals (compare file first second level top) exchanges stimulus answer other printed
      others a b =
      inl (law (compare file first second level top) tt exchanges stimulus answer other printed
      others a b)
  sure_refusals (gen lanes judges) exchanges stimulus answer other printed others a b =
      two_samples lanes judges answer other printed others a.1 b.1
