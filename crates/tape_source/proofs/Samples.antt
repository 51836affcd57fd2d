-- The examples hold: each but the last by what the definitions compute.
use Rattle.std.proofs.Common.{length, refl}
use Rattle.std.proofs.lemmas.Bool.{lt-leb}
use Rattle.tape_source.specs.Tape.{scan, most_words}
use Rattle.tape_source.specs.Examples.{WholeAndCut, OtherKinds, BadFirstWords, BadContents, OrderOfFaults, TooLong, TapeExamples}

whole_and_cut : WholeAndCut
unfolding scan
whole_and_cut = (refl, refl, refl, refl, refl, refl, refl, refl, refl, refl, refl)

other_kinds : OtherKinds
unfolding scan
other_kinds = (refl, refl, refl, refl, refl, refl)

bad-first_words : BadFirstWords
unfolding scan
bad-first_words = (refl, refl, refl, refl, refl, refl, refl, refl, refl)

bad-contents : BadContents
unfolding scan
bad-contents = (refl, refl, refl, refl, refl)

order_of_faults : OrderOfFaults
unfolding scan
order_of_faults = (refl, refl, refl, refl, refl, refl, refl)

too_long : TooLong
too_long ws h = rw (lt-leb (length ws) most_words h) refl

pub tape_examples : TapeExamples
tape_examples = (whole_and_cut, other_kinds, bad-first_words, bad-contents, order_of_faults, too_long)
