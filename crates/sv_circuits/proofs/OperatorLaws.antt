-- The circuit of each operator spells the operator's value.
use Rattle.std.proofs.Common.{◌≡◌, Bool, length, sym, ap, ap₂, ◌∙◌, subst}
use Rattle.sv_num.specs.declared.operators.UnOp.{UnOp}
use Rattle.sv_num.specs.declared.operators.BinOp.{BinOp}
use Rattle.sv_num.specs.UnaryValues.{unary_value}
use Rattle.sv_num.specs.BinaryValues.{binary_value}
use Rattle.sv_gates.specs.Formulas.{Formula}
use Rattle.sv_gates.specs.Extending.{Makes}
use Rattle.sv_circuits.specs.Words.{Word, word_value}
use Rattle.sv_circuits.specs.Operators.{unary_word, binary_word}
use Rattle.sv_circuits.specs.Circuits.{bits_of, IsWord, IsBase, HaveSizes}
use Rattle.sv_circuits.proofs.Products.{bits_length}
use Rattle.sv_circuits.proofs.OperatorBits.{unary_makes, binary_makes}
use Rattle.sv_circuits.proofs.BitNumbers.{number, word_number}
use Rattle.sv_circuits.proofs.OperatorValues.{unary_number, binary_number}

pub unary_says : (op : UnOp) (signed : Bool) (a : Word) (old : Formula) → IsBase old →
    IsWord old.variables a → Makes old (unary_word op a old) IsWord (λ values word.
    word_value values word ≡ unary_value op (length a) signed (word_value values a))
unary_says op signed a old base is =
    let made = unary_word op a old in
    let p = unary_makes op a old base is in
    record {
      extends = p.extends;
      within = p.within;
      says = λ values e.
          word_number values made.1 ∙ ap number (p.says values e)
          ∙ unary_number op signed (bits_of values a)
          ∙ ap₂ (λ n v. unary_value op n signed v) (bits_length values a)
          (sym (word_number values a));
    }

pub binary_says : (op : BinOp) (signed : Bool) (a b : Word) (old : Formula) → IsBase old →
    IsWord old.variables a → IsWord old.variables b → HaveSizes op (length a) (length b) →
    Makes old (binary_word op signed a b old) IsWord (λ values word.
    word_value values word
    ≡ binary_value op (length a) signed (word_value values a) (word_value values b))
binary_says op signed a b old base is_a is_b sizes =
    let made = binary_word op signed a b old in
    let p = binary_makes op signed a b old base is_a is_b in
    record {
      extends = p.extends;
      within = p.within;
      says = λ values e.
          let xs = bits_of values a in
          let ys = bits_of values b in
          word_number values made.1 ∙ ap number (p.says values e)
          ∙ binary_number op signed xs ys
          (subst (λ n. HaveSizes op n (length ys)) (sym (bits_length values a))
          (subst (HaveSizes op (length a)) (sym (bits_length values b)) sizes))
          ∙ ap (λ n. binary_value op n signed (number xs) (number ys)) (bits_length values a)
          ∙ ap₂ (binary_value op (length a) signed) (sym (word_number values a))
          (sym (word_number values b));
    }
