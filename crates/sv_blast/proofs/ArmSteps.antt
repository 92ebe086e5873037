-- Branches that are open: how they are added to on the way down, and taken on the way back.
use Rattle.std.proofs.Common.{◌≡◌, ℕ, ◌<◌, ◌≤◌, List, [], ◌∷◌, ◌++◌, length, refl, sym, ap, subst}
use Rattle.std.proofs.Common.{◌∙◌, arith}
use Rattle.sv_gates.specs.Formulas.{Formula}
use Rattle.sv_gates.specs.Gates.{mux_gate}
use Rattle.sv_gates.specs.Extending.{Begins}
use Rattle.sv_gates.proofs.ExtendingLaws.{begins_trans}
use Rattle.sv_circuits.specs.Words.{Word, bitwise_word}
use Rattle.sv_circuits.specs.Circuits.{IsWord}
use Rattle.sv_circuits.proofs.Lengths.{per_bit_length}
use Rattle.sv_circuits.proofs.LoopSteps.{bits_grow, mux_takes}
use Rattle.sv_circuits.proofs.WordKeeps.{literal_up, word_up}
use Rattle.sv_blast.specs.declared.arms.TargetArm.{TargetArm}
use Rattle.sv_blast.specs.TargetWords.{chosen_back, StandsAt, StandAt}

-- ---- arms

-- the choice at one branch
abbrev pub chosen_at : TargetArm → Formula × Word → Formula × Word
chosen_at arm made = bitwise_word (mux_gate arm.condition) arm.word.items made.1 made.0

pub chosen_last : (arms : List TargetArm) (arm : TargetArm) (made : Formula × Word) →
    chosen_back (arms ++ arm ∷ []) made ≡ chosen_back arms (chosen_at arm made)
chosen_last [] arm made = refl
chosen_last (a ∷ arms) arm made = ap (chosen_at a) (chosen_last arms arm made)

chosen_grows : (arm : TargetArm) (made : Formula × Word) →
    made.0.variables ≤ (chosen_at arm made).0.variables
chosen_grows arm made =
    bits_grow (mux_gate arm.condition) arm.word.items made.1 made.0 (mux_takes arm.condition)

pub back_grows : (arms : List TargetArm) (made : Formula × Word) →
    made.0.variables ≤ (chosen_back arms made).0.variables
back_grows [] made = omega arith
back_grows (arm ∷ arms) made =
    let rest = back_grows arms made in
    let here = chosen_grows arm (chosen_back arms made) in
    omega (arith, rest, here)

-- ---- where they stand

pub stand_before : (width n : ℕ) (arms : List TargetArm) (arm : TargetArm) →
    StandAt width n (arms ++ arm ∷ []) → StandAt width n arms × StandsAt width n arm
stand_before width n [] arm stand = (tt, stand.0)
stand_before width n (a ∷ arms) arm stand =
    let rest = stand_before width n arms arm stand.1 in
    ((stand.0, rest.0), rest.1)

pub stand_with : (width n : ℕ) (arms : List TargetArm) (arm : TargetArm) → StandAt width n arms →
    StandsAt width n arm → StandAt width n (arms ++ arm ∷ [])
stand_with width n [] arm stand one = (one, tt)
stand_with width n (a ∷ arms) arm stand one = (stand.0, stand_with width n arms arm stand.1 one)

pub stand_up : (width m n : ℕ) (arms : List TargetArm) → m ≤ n → StandAt width m arms →
    StandAt width n arms
stand_up width m n [] up stand = tt
stand_up width m n (arm ∷ arms) up stand = (
  (
    literal_up m n arm.condition up stand.0.0,
    (word_up m n arm.word.items up stand.0.1.0, stand.0.1.1),
  ),
  stand_up width m n arms up stand.1,
)

-- ---- the way back

-- what is too large before is too large where it is gone on to something that takes none away
pub full_on : {X : Type 0} {whole made : Formula × X} (from : Formula × X) → whole ≡ made →
    from.0.variables ≤ made.0.variables → (most : ℕ) → most < from.0.variables →
    most < whole.0.variables
full_on {X} from is grows most high =
    subst (λ (z : Formula × X). most < z.0.variables) (sym is) (omega (arith, high, grows))

-- what is to be made comes from the arms that are left and from a word that is there
pub record BackAt (whole : Formula × Word) (width : ℕ) (old now : Formula) (arms : List TargetArm)
    (word : Word) : Type 0 where
  pub made : whole ≡ chosen_back arms (now, word)
  pub stand : StandAt width now.variables arms
  pub is : IsWord now.variables word
  pub wide : length word ≡ width
  pub begins : Begins old now

module _ (whole : Formula × Word) (width : ℕ) (old now : Formula) (arms left : List TargetArm)
    (arm : TargetArm) (word : Word) (back : BackAt whole width old now arms word)
    (split : arms ≡ left ++ arm ∷ []) where
  pub last_made : whole ≡ chosen_back left (chosen_at arm (now, word))
  last_made =
      back.made ∙ ap (λ xs. chosen_back xs (now, word)) split ∙ chosen_last left arm (now, word)

  pub last_stands : StandAt width now.variables left × StandsAt width now.variables arm
  last_stands =
      stand_before width now.variables left arm (subst (StandAt width now.variables) split back.stand)

  pub last_full : (most : ℕ) → most < (chosen_at arm (now, word)).0.variables →
      most < whole.0.variables
  last_full =
      full_on (chosen_at arm (now, word)) last_made (back_grows left (chosen_at arm (now, word)))

  pub last_taken : (later : Formula) (next : Word) → chosen_at arm (now, word) ≡ (later, next) →
      IsWord later.variables next → Begins now later → BackAt whole width old later left next
  last_taken later next made is begins = record {
    made = last_made ∙ ap (chosen_back left) made;
    stand = stand_up width now.variables later.variables left begins.grows last_stands.0;
    is = is;
    wide = ap (λ (z : Formula × Word). length z.1) (sym made)
        ∙ per_bit_length (mux_gate arm.condition) arm.word.items word now
        (last_stands.1.1.1 ∙ sym back.wide)
        ∙ last_stands.1.1.1;
    begins = begins_trans old now later back.begins begins;
  }
