use Rattle.std.proofs.Common.{arith, inl, inr}
use Rattle.std.specs.Prelude.{codes}
use Rattle.secv.proofs.OneWord.{one_word}
use Rattle.secv.proofs.answer.Goals as goal

pub returns-in-len1-clause-ends : goal.returns-in-len1-clause-ends
returns-in-len1-clause-ends c other =
    absurd (other (inl (inl (inl (one_word c.args.words.now c.word-item.result
    c.as_str.result.now (codes "--help") c.eq.result c.in-len1.len_at_least (search arith)
    c.word-item.is c.as_str.ensures.value c.eq.ensures c.if-eq.true)))))

pub returns-in-len1-2-clause-ends : goal.returns-in-len1-2-clause-ends
returns-in-len1-2-clause-ends c other =
    absurd (other (inl (inl (inr (one_word c.args.words.now c.word-item-then-words-lt2.result
    c.as_str-then-words-lt2.result.now (codes "-h") c.eq-then-words-lt2.result
    c.in-len1.len_at_least (search arith) c.word-item-then-words-lt2.is
    c.as_str-then-words-lt2.ensures.value c.eq-then-words-lt2.ensures c.if-eq-2.true)))))

pub returns-in-len1-3-clause-ends : goal.returns-in-len1-3-clause-ends
returns-in-len1-3-clause-ends c other =
    absurd (other (inl (inr (one_word c.args.words.now c.word-item-then-words-lt2-2.result
    c.as_str-then-words-lt2-2.result.now (codes "--version") c.eq-then-words-lt2-2.result
    c.in-len1.len_at_least (search arith) c.word-item-then-words-lt2-2.is
    c.as_str-then-words-lt2-2.ensures.value c.eq-then-words-lt2-2.ensures c.if-eq-3.true))))
