-- What the contract of each call says, in the definitions that the laws speak of. A clause that is lost or weakened is missed here.
-- Assumes nothing.
use mathlib.Core.Path.{◌≡◌}
use lib.ListN.{length}
use Rattle.listing.specs.Limits.{largest64}
use Rattle.words.specs.Contract.{Says}
use Rattle.text_numbers.specs.Decimal.{digits_of, number_up_to}
use Rattle.text_numbers.specs.Signed.{signed_up_to}
use Rattle.text_numbers.specs.Answers.{read_is, signed_is, TextOf}
use Rattle.text_numbers.proofs.reading.read_number.Reads as read_number
use Rattle.text_numbers.proofs.reading.read_signed.Reads as read-signed
use Rattle.text_numbers.proofs.writing.places.Reads as places
use Rattle.text_numbers.proofs.writing.digits.Reads as digits

-- read_number(t: &[u8]) -> Read
pub read-number-says : Says read_number.Learnt (λ κs (t, _) r e. read_is r ≡ number_up_to largest64 t.now)
read-number-says κs a r e h = h

-- read_signed(t: &[u8]) -> ReadSigned
pub read-signed-says : Says read-signed.Learnt (λ κs (t, _) r e. signed_is r ≡ signed_up_to largest64 t.now)
read-signed-says κs a r e h = h

-- places(n: u64) -> usize
pub places-says : Says places.Learnt (λ κs (n, _) r e. r ≡ length (digits_of n))
places-says κs a r e h = h

-- digits(n: u64) -> Text
pub digits-says : Says digits.Learnt (λ κs (n, _) r e. TextOf n r)
digits-says κs a r e h = h
