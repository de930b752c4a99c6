-- A plain head with a laszip VLR: it is a head, this is its one laszip VLR, and without it the plain head is back.
use Rattle.std.proofs.Common.{◌≡◌, ℕ, ◌+◌, ◌-◌, ◌<◌, ◌≤◌, ◌^◌, ◌==◌, ◌&&◌, ◌%◌, nat_le, nat_eq, Bool, true, false, cond, List, [], ◌∷◌, ◌++◌, length, take, drop, slice_index, refl, sym, ap, ◌∙◌, arith, append_assoc}
use Rattle.std.proofs.lemmas.List.{drop-drop, drop-take, drop-append-le, length-take-le, take-append-drop}
use Rattle.std.proofs.lemmas.Bool.{leb-false, le-leb}
use Rattle.std.proofs.Math.Seq.{drop-cons}
use Rattle.std.specs.List.{splice, starts_with}
use Rattle.byteorder.specs.Endian.{little_bytes}
use Rattle.las_header.specs.declared.limits.TheConstants.{LASZIP_USER_ID, LASZIP_RECORD_ID, LASZIP_DESCRIPTION}
use Rattle.las_header.specs.declared.vlrs.VlrPlace.{VlrPlace}
use Rattle.las_header.specs.Numbers.{number_at}
use Rattle.las_header.specs.Fields.{minor_of, header_size_of, point_offset_of, vlr_count_of, format_byte_of, is_packed, format_of}
use Rattle.las_header.specs.Vlrs.{payload_length_at, vlr_start, vlr_place, vlrs_end, is_laszip, laszip_vlrs_of, first_size, HasOneVlr}
use Rattle.las_header.specs.Heads.{IsHead, laszip_size, PacksHead}
use Rattle.las_header.specs.Plain.{with_layout, laszip_vlr, with_vlr, without_first, plain_of}
use Rattle.las_header.proofs.NumberLemmas.{number_at-drop, little_number_at, reads_back}
use Rattle.las_header.proofs.VlrLemmas.{vlr_start-more, header_before, count_within, vlr_start-same, laszips, laszips-same, laszips-found}
use Rattle.las_header.proofs.CauseLemmas.{least_any}
use Rattle.las_header.proofs.LayoutLemmas.{layout_bytes, same_relaid, IsRelaid, size_relaid, front_relaid, offset_relaid, count_relaid, byte_relaid, after_relaid, header_relaid, vlrs_relaid, relaid_head, take-splice_le, drop_part, drop_after, records_relaid, points_relaid}

-- the bytes of a laszip VLR
length-laszip_vlr : (payload : List ℕ) → length (laszip_vlr payload) ≡ 54 + length payload
length-laszip_vlr payload = omega arith

payload_of_vlr : (payload rest : List ℕ) → length payload < 256 ^ 2 → number_at 2 0 (drop 20 (laszip_vlr payload ++ rest)) ≡ length payload
payload_of_vlr payload rest fits = reads_back 2 (length payload) ((LASZIP_DESCRIPTION ++ payload) ++ rest) fits

user_id_of_vlr : (payload rest : List ℕ) → starts_with nat_eq (drop 2 (laszip_vlr payload ++ rest)) LASZIP_USER_ID ≡ true
user_id_of_vlr payload rest = refl

record_id_of_vlr : (payload rest : List ℕ) → number_at 2 0 (drop 18 (laszip_vlr payload ++ rest)) ≡ LASZIP_RECORD_ID
unfolding number_at
record_id_of_vlr payload rest = refl

-- what is needed to pack a head
pub record CanPack (payload head : List ℕ) : Type 0 where
  pub head_is : IsHead head
  pub plain : is_packed head ≡ false
  pub none : laszip_vlrs_of head ≡ []
  pub short : length payload ≤ 58
  pub bytes : (k : ℕ) → slice_index head k < 256

pub plain_byte : {payload head : List ℕ} → CanPack payload head → format_byte_of head < 128
plain_byte {head = head} p = leb-false 128 (format_byte_of head) p.plain

plain_near : {payload head : List ℕ} → CanPack payload head → length head ≤ 16777216
plain_near {head = head} p =
    let none : laszip_size head ≡ 0 = ap (λ (b : Bool). cond b (first_size (laszip_vlrs_of head)) 0) p.plain in
    omega (arith, none, p.head_is.near)

relaid : {payload head : List ℕ} → CanPack payload head
    → IsRelaid head (with_vlr payload head) (vlrs_end head) (vlrs_end head) (laszip_vlr payload) (point_offset_of head + (54 + length payload)) (vlr_count_of head + 1) (format_byte_of head + 128)
relaid {payload = payload} {head = head} p = record {
  is = refl;
  head = p.head_is;
  after = header_before (vlr_count_of head) head;
  order = omega arith;
  end = p.head_is.vlrs;
}

pub count_fits : {payload head : List ℕ} → CanPack payload head → vlr_count_of head + 1 < 2 ^ 32
count_fits {head = head} p = omega (arith, count_within (vlr_count_of head) head, p.head_is.vlrs, plain_near p)

packed_count : {payload head : List ℕ} → CanPack payload head → vlr_count_of (with_vlr payload head) ≡ vlr_count_of head + 1
packed_count p = count_relaid (relaid p) (count_fits p)

-- the old VLRs stay, and the new one begins where they end
old_end : {payload head : List ℕ} → CanPack payload head → vlr_start (vlr_count_of head) (with_vlr payload head) ≡ vlrs_end head
old_end {payload = payload} {head = head} p =
    vlr_start-same (vlr_count_of head) (vlrs_end head) head (with_vlr payload head) (header_relaid (relaid p)) (vlrs_relaid (relaid p)) (omega arith)

block_before : (head : List ℕ) → IsHead head → 227 ≤ header_size_of head
block_before head is = let least = least_any (minor_of head) in let header = is.header_size in omega arith

at_end : {payload head : List ℕ} → CanPack payload head → drop (vlrs_end head) (with_vlr payload head) ≡ laszip_vlr payload ++ drop (vlrs_end head) head
at_end {payload = payload} {head = head} p =
    let block = block_before head p.head_is in
    after_relaid (relaid p) (vlrs_end head) (omega (arith, header_before (vlr_count_of head) head))
    ∙ drop_part head (vlrs_end head) (vlrs_end head) (laszip_vlr payload) p.head_is.vlrs

number_in_vlr : {payload head : List ℕ} → CanPack payload head → (width at : ℕ)
    → number_at width (vlrs_end head + at) (with_vlr payload head) ≡ number_at width 0 (drop at (laszip_vlr payload ++ drop (vlrs_end head) head))
number_in_vlr {payload = payload} {head = head} p width at =
    let new = with_vlr payload head in
    number_at-drop width (vlrs_end head + at) new
    ∙ ap (number_at width 0) (sym (drop-drop at (vlrs_end head) new) ∙ ap (λ (zs : List ℕ). drop at zs) (at_end p))

payload_there : {payload head : List ℕ} → CanPack payload head → payload_length_at (vlrs_end head) (with_vlr payload head) ≡ length payload
payload_there {payload = payload} {head = head} p = number_in_vlr p 2 20 ∙ payload_of_vlr payload (drop (vlrs_end head) head) (omega (arith, p.short))

new_place : {payload head : List ℕ} → CanPack payload head → vlr_place (vlr_count_of head) (with_vlr payload head) ≡ record { start = vlrs_end head; length = length payload }
new_place {payload = payload} {head = head} p =
    let first = old_end p in
    let second = ap (λ (s : ℕ). payload_length_at s (with_vlr payload head)) first ∙ payload_there p in
    λ j. record { start = first j; length = second j }

new_flag : {payload head : List ℕ} → CanPack payload head → is_laszip (with_vlr payload head) (vlr_place (vlr_count_of head) (with_vlr payload head)) ≡ true
new_flag {payload = payload} {head = head} p =
    let new = with_vlr payload head in
    let rest = drop (vlrs_end head) head in
    let id : starts_with nat_eq (drop (vlrs_end head + 2) new) LASZIP_USER_ID ≡ true =
    ap (λ (zs : List ℕ). starts_with nat_eq zs LASZIP_USER_ID) (sym (drop-drop 2 (vlrs_end head) new) ∙ ap (λ (zs : List ℕ). drop 2 zs) (at_end p)) ∙ user_id_of_vlr payload rest in
    let record_id : number_at 2 (vlrs_end head + 18) new ≡ LASZIP_RECORD_ID = number_in_vlr p 2 18 ∙ record_id_of_vlr payload rest in
    ap (is_laszip new) (new_place p)
    ∙ ap (λ (b : Bool). b && (number_at 2 (vlrs_end head + 18) new == LASZIP_RECORD_ID)) id
    ∙ ap (λ (n : ℕ). n == LASZIP_RECORD_ID) record_id

one_laszip : {payload head : List ℕ} → CanPack payload head → HasOneVlr (vlrs_end head) (length payload) (with_vlr payload head)
one_laszip {payload = payload} {head = head} p =
    let new = with_vlr payload head in
    let before : laszips (vlr_count_of head) new ≡ [] =
    laszips-same (vlr_count_of head) (vlrs_end head) head new (header_relaid (relaid p)) (vlrs_relaid (relaid p)) (omega arith) ∙ p.none in
    ap (λ (n : ℕ). laszips n new) (packed_count p) ∙ laszips-found (vlr_count_of head) new (new_flag p)
    ∙ ap (λ (ps : List VlrPlace). ps ++ vlr_place (vlr_count_of head) new ∷ []) before
    ∙ ap (λ (q : VlrPlace). q ∷ []) (new_place p)

packed_there : {payload head : List ℕ} → CanPack payload head → is_packed (with_vlr payload head) ≡ true
packed_there {head = head} p = ap (λ (b : ℕ). nat_le 128 b) (byte_relaid (relaid p)) ∙ le-leb 128 (format_byte_of head + 128) (omega arith)

whole_there : {payload head : List ℕ} → CanPack payload head → length (with_vlr payload head) ≡ length head + (54 + length payload)
whole_there {payload = payload} p = omega (arith, size_relaid (relaid p), length-laszip_vlr payload)

packed_is_head : {payload head : List ℕ} → CanPack payload head → IsHead (with_vlr payload head)
packed_is_head {payload = payload} {head = head} p =
    let new = with_vlr payload head in
    let size = whole_there p in
    let near = plain_near p in
    let laszip : laszip_size new ≡ 54 + length payload =
    ap (λ (b : Bool). cond b (first_size (laszip_vlrs_of new)) 0) (packed_there p) ∙ ap first_size (one_laszip p) in
    let end : vlr_start (vlr_count_of head + 1) new ≡ vlrs_end head + 54 + length payload =
    vlr_start-more (vlr_count_of head) new ∙ ap (λ (s : ℕ). s + 54 + payload_length_at s new) (old_end p) ∙ ap (λ (n : ℕ). vlrs_end head + 54 + n) (payload_there p) in
    relaid_head (relaid p) (omega (arith, size, p.head_is.whole)) (omega (arith, near, p.head_is.whole, p.short)) (count_fits p)
    (omega (arith, plain_byte p)) (omega (arith, end, size, p.head_is.vlrs)) (omega (arith, laszip, size, near))

-- the nine bytes that a head has for its offset, its number of VLRs and its format byte, written again
own_layout : (head : List ℕ) → 105 ≤ length head → ((k : ℕ) → slice_index head k < 256)
    → take 96 head ++ (layout_bytes (point_offset_of head) (vlr_count_of head) (format_byte_of head) ++ drop 105 head) ≡ head
own_layout head long bytes =
    let offset = little_number_at 4 96 head (omega arith) bytes in
    let count = little_number_at 4 100 head (omega arith) bytes in
    let byte : drop 104 head ≡ format_byte_of head ∷ drop 105 head = drop-cons head 104 0 (omega arith) in
    let after_count : take 4 (drop 100 head) ++ drop 104 head ≡ drop 100 head =
    ap (λ (zs : List ℕ). take 4 (drop 100 head) ++ zs) (sym (drop-drop 4 100 head)) ∙ take-append-drop 4 (drop 100 head) in
    let after_offset : take 4 (drop 96 head) ++ drop 100 head ≡ drop 96 head =
    ap (λ (zs : List ℕ). take 4 (drop 96 head) ++ zs) (sym (drop-drop 4 96 head)) ∙ take-append-drop 4 (drop 96 head) in
    let joined : layout_bytes (point_offset_of head) (vlr_count_of head) (format_byte_of head) ++ drop 105 head ≡ drop 96 head =
    append_assoc (little_bytes 4 (point_offset_of head)) (little_bytes 4 (vlr_count_of head) ++ format_byte_of head ∷ []) (drop 105 head)
    ∙ ap (λ (zs : List ℕ). little_bytes 4 (point_offset_of head) ++ zs) (append_assoc (little_bytes 4 (vlr_count_of head)) (format_byte_of head ∷ []) (drop 105 head))
    ∙ ap (λ (zs : List ℕ). little_bytes 4 (point_offset_of head) ++ (little_bytes 4 (vlr_count_of head) ++ zs)) (sym byte)
    ∙ ap (λ (zs : List ℕ). little_bytes 4 (point_offset_of head) ++ (zs ++ drop 104 head)) count
    ∙ ap (λ (zs : List ℕ). little_bytes 4 (point_offset_of head) ++ zs) after_count
    ∙ ap (λ (zs : List ℕ). zs ++ drop 100 head) offset ∙ after_offset in
    ap (λ (zs : List ℕ). take 96 head ++ zs) joined ∙ take-append-drop 96 head

-- the new head without its laszip VLR is the old one, but for the nine bytes
cut_again : {payload head : List ℕ} → CanPack payload head
    → let cut = splice (with_vlr payload head) (vlrs_end head) (vlrs_end head + (54 + length payload)) [] in
    (take 96 cut ≡ take 96 head) × (drop 105 cut ≡ drop 105 head)
cut_again {payload = payload} {head = head} p =
    let new = with_vlr payload head in
    let e = vlrs_end head in
    let n = 54 + length payload in
    let block = block_before head p.head_is in
    let start = header_before (vlr_count_of head) head in
    let size = whole_there p in
    let inside : e ≤ length new = omega (arith, p.head_is.vlrs) in
    let long : length (take e new) ≡ e = length-take-le e new inside in
    let front : take 96 (splice new e (e + n) []) ≡ take 96 head = take-splice_le 96 new e (e + n) [] (omega arith) inside ∙ front_relaid (relaid p) in
    let reach : 105 + (e - 105) ≡ e = omega arith in
    let kept : drop 105 (take e new) ≡ drop 105 (take e head) =
    ap (λ (m : ℕ). drop 105 (take m new)) (sym reach) ∙ drop-take 105 (e - 105) new
    ∙ same_relaid (relaid p) 105 (e - 105) (omega arith) (omega arith)
    ∙ sym (drop-take 105 (e - 105) head) ∙ ap (λ (m : ℕ). drop 105 (take m head)) reach in
    let rest : drop (e + n) new ≡ drop e head =
    after_relaid (relaid p) (e + n) (omega arith)
    ∙ ap (λ (m : ℕ). drop (e + m) (splice head e e (laszip_vlr payload))) (sym (length-laszip_vlr payload)) ∙ drop_after head e e (laszip_vlr payload) p.head_is.vlrs in
    let back : drop 105 (splice new e (e + n) []) ≡ drop 105 head =
    drop-append-le 105 (take e new) (drop (e + n) new) (omega (arith, long))
    ∙ ap (λ (zs : List ℕ). zs ++ drop (e + n) new) kept ∙ ap (λ (zs : List ℕ). drop 105 (take e head) ++ zs) rest
    ∙ sym (drop-append-le 105 (take e head) (drop e head) (omega (arith, length-take-le e head p.head_is.vlrs)))
    ∙ ap (λ (zs : List ℕ). drop 105 zs) (take-append-drop e head) in
    (front, back)

unpacked_again : {payload head : List ℕ} → CanPack payload head → plain_of (with_vlr payload head) ≡ head
unpacked_again {payload = payload} {head = head} p =
    let new = with_vlr payload head in
    let e = vlrs_end head in
    let n = 54 + length payload in
    let cut = splice new e (e + n) [] in
    let same = cut_again p in
    let offset : point_offset_of new - n ≡ point_offset_of head =
    omega (arith, offset_relaid (relaid p) (omega (arith, plain_near p, p.head_is.whole, p.short))) in
    let count : vlr_count_of new - 1 ≡ vlr_count_of head = omega (arith, packed_count p) in
    let format : format_of new ≡ format_byte_of head = ap (λ (b : ℕ). b % 128) (byte_relaid (relaid p)) ∙ omega (arith, plain_byte p) in
    ap (λ (b : Bool). cond b (without_first (laszip_vlrs_of new) new) new) (packed_there p)
    ∙ ap (λ (ps : List VlrPlace). without_first ps new) (one_laszip p)
    ∙ ap (λ (o : ℕ). with_layout o (vlr_count_of new - 1) (format_of new) cut) offset
    ∙ ap (λ (k : ℕ). with_layout (point_offset_of head) k (format_of new) cut) count
    ∙ ap (λ (f : ℕ). with_layout (point_offset_of head) (vlr_count_of head) f cut) format
    ∙ ap (λ (zs : List ℕ). zs ++ (layout_bytes (point_offset_of head) (vlr_count_of head) (format_byte_of head) ++ drop 105 cut)) same.0
    ∙ ap (λ (zs : List ℕ). take 96 head ++ (layout_bytes (point_offset_of head) (vlr_count_of head) (format_byte_of head) ++ zs)) same.1
    ∙ own_layout head (omega (arith, p.head_is.block)) p.bytes

-- all that is said of a packed head
pub packs : (payload head : List ℕ) → CanPack payload head → PacksHead payload head (with_vlr payload head)
packs payload head p = record {
  bytes = refl;
  is_head = packed_is_head p;
  back = unpacked_again p;
  packed = packed_there p;
  size = whole_there p;
  records = records_relaid (relaid p) (omega (arith, plain_byte p));
  points = points_relaid (relaid p);
  laszip = one_laszip p;
}
