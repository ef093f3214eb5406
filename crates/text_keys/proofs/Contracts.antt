-- What the contract of each call says, in the definitions that the laws speak of. A clause that is lost or weakened is missed here.
-- Assumes nothing.
use mathlib.Core.Path.{◌≡◌}
use Rattle.words.specs.Contract.{Says}
use Rattle.text_keys.specs.Parts.{first_of, begins}
use Rattle.text_keys.specs.Answers.{found_is}
use Rattle.text_keys.proofs.find.Reads as find
use Rattle.text_keys.proofs.has_key.Reads as has_key_lem

-- find(t: &[u8], b: u8) -> Found
pub find-says : Says find.Learnt (λ κs (t, (b, _)) r e. found_is r ≡ first_of b t.now)
find-says κs a r e h = h

-- has_key(t: &[u8], key: &[u8]) -> bool
pub has-key-says : Says has_key_lem.Learnt (λ κs (t, (key, _)) r e. r ≡ begins key.now t.now)
has-key-says κs a r e h = h
