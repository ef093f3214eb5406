-- The contract of a call as a value. The kit makes one of each function, `Learnt`: what a caller learns, of the arguments a, the answer r and the arguments at
-- exit e, where each lent slice stands with the contents that it was left. (κs are the lifetimes of what is lent; no contract of ours speaks of them.)
-- Assumes nothing.
use Rattle.std.specs.Prelude.{◌≡◌}

-- a contract over lifetimes, arguments, an answer and the arguments at exit
abbrev pub Contract : (K : Type 0) (A R E : K → Type 0) → Type 1
Contract K A R E = (κs : K) → A κs → R κs → E κs → Type 0

-- what a contract says: whoever learns it has this as well
abbrev pub Says : {K : Type 0} {A R E : K → Type 0} → Contract K A R E → Contract K A R E → Type 0
Says {K} {A} {R} {E} learnt this = (κs : K) (a : A κs) (r : R κs) (e : E κs) → learnt κs a r e → this κs a r e

-- that two runs on the same input give the same: `gives` is what of a run is meant, its answer and what it leaves
abbrev pub One : {K : Type 0} {A R E L : K → Type 0} → Contract K A R E → ((κs : K) → R κs → E κs → L κs) → Type 0
One {K} {A} {R} {E} learnt gives = (κs : K) (a : A κs) (r s : R κs) (e f : E κs) → learnt κs a r e → learnt κs a s f → gives κs r e ≡ gives κs s f
