use Rattle.clap.specs.Words.{found_of}
use Rattle.sv_words.proofs.Numbers.{flag_is_read}
use Rattle.sv_words.proofs.read.flag_in.Goals as goal

pub returns : goal.returns
returns c = flag_is_read (found_of c.args.matches.now) c.args.id.now c.get_flag.result
    c.get_flag.ensures.none c.get_flag.ensures.value c.get_flag.ensures.other c.requires
