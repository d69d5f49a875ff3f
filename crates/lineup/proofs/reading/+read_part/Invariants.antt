use Rattle.lineup.proofs.reading.+read_part.Given as goal

abbrev pub decreases-read-part : goal.decreases-read-part
decreases-read-part l = l.depth
