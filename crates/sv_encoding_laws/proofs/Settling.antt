-- Words spell settled and next values, as it is said of whole cones.
use Rattle.std.proofs.Common.{◌≡◌, ℕ, ◌+◌, ◌||◌, List}
use Rattle.std.specs.Prelude.{IsTrue}
use Rattle.sv_flat.specs.Design.{FlatDesign}
use Rattle.sv_flat.specs.Soundness.{sound}
use Rattle.sv_flat.specs.Admission.{IsAdmitted}
use Rattle.sv_flat.specs.Sets.{holds}
use Rattle.sv_gates.specs.Formulas.{Formula}
use Rattle.sv_circuits.specs.Circuits.{IsBase}
use Rattle.sv_encoding.specs.Expressions.{Words}
use Rattle.sv_encoding.specs.Encoding.{settled_in, settled_words, registers_next}
use Rattle.sv_encoding.specs.BothWays.{IsWordOf, IsCone, IsReadThere}
use Rattle.sv_encoding.specs.Sizes.{signals_size}
use Rattle.sv_system.proofs.Lists.{Contains-filter}
use Rattle.sv_flat.specs.Processes.{is_top_input, is_register}
use Rattle.sv_flat.specs.Reads.{is_combinational}
use Rattle.sv_flat.proofs.LeastSets.{Contains-from_filter, Contains-from_holds}
use Rattle.sv_flat.proofs.LeastSets.{holds-from_Contains, or_cases}
use Rattle.sv_encoding.specs.Cones.{registers_in}
use Rattle.sv_encoding.specs.Encoding.{given_in}
use Rattle.sv_encoding.specs.BothWays.{WordsSpellSettledValues, WordsSpellNextValues}
use Rattle.sv_encoding_laws.proofs.FrameWords.{settled_make, nexts_make, after_member}
use Rattle.sv_encoding_laws.proofs.FrameWords.{leaves_others, settled_count, nexts_count}
use Rattle.sv_encoding.specs.Bodies.{settled_word}

pub words_spell_settled_values : WordsSpellSettledValues
words_spell_settled_values design cone words formula is_sound admitted is_cone base wide =
    let given = λ (s : ℕ). is_top_input design s || is_register design s in
    let p = settled_make design is_sound admitted cone
    (λ s inside. or_cases (given s) (is_combinational design s) (is_cone.kinds s inside))
    is_cone.closed words formula base
    (λ s g. let known = wide s (holds-from_Contains (given_in design cone) s
    (Contains-filter given cone s (Contains-from_holds cone s g.0) g.1)) in
    record { is = known.0; width = known.1 }) in
    record {
      extends = p.extends;
      within = λ s inside. let has = p.within s inside in (has.is, has.width);
      says = λ values met e fits still known.
          p.says values met e fits still
          (λ s g. known s (holds-from_Contains (given_in design cone) s
          (Contains-filter given cone s (Contains-from_holds cone s g.0) g.1)));
    }

pub words_spell_next_values : WordsSpellNextValues
words_spell_next_values design cone now next formula is_sound admitted base wide =
    let listed = registers_in design cone in
    let p = nexts_make design is_sound admitted now listed
    (λ s at. (Contains-from_filter (is_register design) cone s at).0)
    (λ t. ⊥) next formula base
    (λ t r. let known = wide t (r.0, holds-from_Contains listed r.0 r.1, r.2) in
    record { is = known.0; width = known.1 })
    (λ t none. absurd none) in (
      record {
        extends = p.extends;
        within = λ s at. let has = p.within s
            (after_member (λ t. ⊥) listed s (Contains-from_holds listed s at)) in
            (has.is, has.width);
        says = λ values met e reads s at.
            p.says values met e
            (λ t r. reads t (r.0, holds-from_Contains listed r.0 r.1, r.2))
            (λ t none. absurd none)
            s (after_member (λ t. ⊥) listed s (Contains-from_holds listed s at));
      },
      leaves_others (λ s words. settled_word design now s) listed next formula,
    )

-- ---- how many variables they take

pub settled_words_count : (design : FlatDesign) (cone : List ℕ) (words : Words)
    (formula : Formula) → IsTrue (sound design) → IsAdmitted design → IsCone design cone →
    IsBase formula →
    ((s : ℕ) → IsTrue (holds (given_in design cone) s) →
    IsWordOf design s formula.variables (words s)) →
    (settled_words design cone words formula).0.variables
    ≡ formula.variables + signals_size design (settled_in design cone)
settled_words_count design cone words formula is_sound admitted is_cone base wide =
    let given = λ (s : ℕ). is_top_input design s || is_register design s in
    settled_count design is_sound admitted cone
    (λ s inside. or_cases (given s) (is_combinational design s) (is_cone.kinds s inside))
    is_cone.closed words formula base
    (λ s g. let known = wide s (holds-from_Contains (given_in design cone) s
    (Contains-filter given cone s (Contains-from_holds cone s g.0) g.1)) in
    record { is = known.0; width = known.1 })

pub next_words_count : (design : FlatDesign) (cone : List ℕ) (now next : Words)
    (formula : Formula) → IsTrue (sound design) → IsAdmitted design → IsBase formula →
    ((t : ℕ) → IsReadThere design (registers_in design cone) t →
    IsWordOf design t formula.variables (now t)) →
    (registers_next design cone now next formula).0.variables
    ≡ formula.variables + signals_size design (registers_in design cone)
next_words_count design cone now next formula is_sound admitted base wide =
    let listed = registers_in design cone in
    nexts_count design is_sound admitted now listed
    (λ s at. (Contains-from_filter (is_register design) cone s at).0)
    formula.variables base.some
    (λ t r. let known = wide t (r.0, holds-from_Contains listed r.0 r.1, r.2) in
    record { is = known.0; width = known.1 }) next formula
