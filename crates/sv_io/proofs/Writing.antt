-- What parts of a text that are accepted one after another add up to.
use Rattle.std.proofs.Common.{◌≡◌, ℕ, List, [], ◌++◌, refl, arith}
use Rattle.std.proofs.lemmas.Grind.{common_steps}
use Rattle.sv_io.specs.Sink.{WritesFront}

-- the front of a text is the front of each longer text
pub writes_front_more : (old text more new : List ℕ) → WritesFront old text new →
    WritesFront old (text ++ more) new
writes_front_more old text more new wrote = record {
  front = wrote.front;
  rest = wrote.rest ++ more;
  whole = grind (arith, common_steps, wrote.whole);
  accepted = wrote.accepted;
}

-- a whole text and then the front of the next
pub writes_front_after : (old text between more new : List ℕ) → between ≡ old ++ text →
    WritesFront between more new → WritesFront old (text ++ more) new
writes_front_after old text between more new whole wrote = record {
  front = text ++ wrote.front;
  rest = wrote.rest;
  whole = grind (arith, common_steps, wrote.whole);
  accepted = grind (arith, common_steps, wrote.accepted, whole);
}

-- nothing was accepted: the front of every text
pub writes_front_none : (old text new : List ℕ) → new ≡ old → WritesFront old text new
writes_front_none old text new same = record {
  front = [];
  rest = text;
  whole = refl;
  accepted = grind (arith, common_steps, same);
}

-- the whole text is a front of it
pub writes_front_whole : (old text new : List ℕ) → new ≡ old ++ text → WritesFront old text new
writes_front_whole old text new whole = record {
  front = text;
  rest = [];
  whole = grind (arith, common_steps);
  accepted = whole;
}
