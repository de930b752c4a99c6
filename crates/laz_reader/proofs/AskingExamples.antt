-- Values that compute: what opening asks for. It is a head of 227 or 321 bytes, 16 bytes of pointers, and 12 and 24 for each
-- chunk that the table begins with, up to 2^24; of a file that is refused by its first 227 bytes, those.
use Rattle.std.proofs.Common.{◌≡◌, ◌++◌, replicate, refl}
use Rattle.las_header.specs.Numbers.{number_at}
use Rattle.laz_reader.specs.Asking.{asked_to_open}
use Rattle.laz_forms.proofs.Public.{chunk, head, last_pointer, one, one_packed, pointer, vlr}

to_open : (asked_to_open one ≡ 227) × (asked_to_open (one_packed pointer) ≡ 373) × (asked_to_open last_pointer ≡ 373) × (asked_to_open (replicate 10 0) ≡ 227)
unfolding number_at
to_open = (refl, refl, refl, refl)

many_to_open : asked_to_open (head 321 1 128 1 ++ vlr ++ pointer ++ chunk ++ replicate 8 255) ≡ 402653533
unfolding number_at
many_to_open = refl
