-- The measure of both: the ports fall at each call.
use Rattle.pattern_ranks.proofs.ranking.+place_place_back.Given as goal

abbrev pub decreases-place : goal.decreases-place
decreases-place l = l.t.now.ports

abbrev pub decreases-place_back : goal.decreases-place_back
decreases-place_back l = l.t.now.ports
