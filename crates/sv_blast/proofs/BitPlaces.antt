-- The places of bits, as loops add them.
use Rattle.std.proofs.Common.{◌≡◌, ℕ, suc, ◌+◌, ◌<◌, ◌≤◌, Bool, ℤ, List, [], ◌∷◌, ◌++◌, map, length, drop}
use Rattle.std.proofs.Common.{refl, sym, ap, ap₂, ◌∙◌, arith, append_assoc, get_or, flat_map}
use Rattle.std.specs.List.{enumerate_from}
use Rattle.std.specs.Prelude.{unsigned_abs}
use Rattle.std.proofs.lemmas.List.{append-nil, drop_more, map-append}
use Rattle.sv_circuits.specs.Words.{Word}
use Rattle.sv_encoding.specs.Encoding.{BitPlace, word_places, bit_places}
use Rattle.sv_encoding.specs.Expressions.{Words}
use Rattle.sv_blast.specs.Coded.{place_form}
use Rattle.sv_blast.specs.declared.coded.BitPlace.{BitPlace as Place}

-- the places of the bits from this one on
abbrev pub places_from : (next : Bool) → (signal bit : ℕ) → Word → List BitPlace
places_from next s b word =
    map (λ bit. record {
      signal = s;
      next = next;
      bit = bit.0;
      variable = unsigned_abs bit.1;
    }) (enumerate_from b word)

abbrev pub place_of : (next : Bool) → (signal bit : ℕ) → ℤ → BitPlace
place_of next s b literal =
    record { signal = s; next = next; bit = b; variable = unsigned_abs literal }

-- what is to be added to the front is what was added and what is left
pub record PlacesAt (whole : List BitPlace) (places : List Place) (left : List BitPlace) : Type 0
  where
    pub made : whole ≡ map place_form places ++ left

pub places_more : (whole : List BitPlace) (places new : List Place) (left rest : List BitPlace)
    (place : Place) → PlacesAt whole places left → left ≡ place_form place ∷ rest →
    new ≡ places ++ place ∷ [] → PlacesAt whole new rest
places_more whole places new left rest place at e add = record {
  made = at.made
      ∙ ap (λ z. map place_form places ++ z) e
      ∙ sym (append_assoc (map place_form places) (place_form place ∷ []) rest)
      ∙ ap (λ z. z ++ rest)
      (sym (map-append place_form places (place ∷ [])) ∙ ap (map place_form) (sym add));
}

pub places_joined : (whole : List BitPlace) (places new : List Place) (left here rest : List BitPlace) →
    PlacesAt whole places left → left ≡ here ++ rest →
    map place_form new ≡ map place_form places ++ here → PlacesAt whole new rest
places_joined whole places new left here rest at e add = record {
  made = at.made
      ∙ ap (λ z. map place_form places ++ z) e
      ∙ sym (append_assoc (map place_form places) here rest)
      ∙ ap (λ z. z ++ rest) (sym add);
}

pub places_end : (whole : List BitPlace) (places : List Place) (left : List BitPlace) →
    PlacesAt whole places left → left ≡ [] → map place_form places ≡ whole
places_end whole places left at e =
    sym (at.made ∙ ap (λ z. map place_form places ++ z) e ∙ append-nil (map place_form places))
