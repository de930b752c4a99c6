-- Values that compute: what words say.
use Rattle.std.proofs.Common.{◌≡◌, ℕ, Bool, zero, suc, pos, negsuc, true, false, List, [], ◌∷◌, ◌++◌, Some, None, codes, refl}
use Rattle.std.specs.Fmt.{digits}
use Rattle.las_filter.specs.declared.keep.Keep.TheVariants.{Classes, DropReturns, Intensity}
use Rattle.las_filter.specs.declared.change.Change.TheVariants.{Translate, SetClass}
use Rattle.las_filter.specs.Kept.{Steps}
use Rattle.las_filter.specs.declared.rule.Rule.TheVariants.{Every, Source}
use Rattle.las_thin.specs.declared.pick.Pick.TheVariants as pick
use Rattle.las_thin.specs.Sieving.{Settings}
use Rattle.las_words.specs.Names.{stem_of, extension_of, is_part_name}
use Rattle.las_filter.specs.declared.rule.Rule.{Rule}
use Rattle.las_words.specs.Asked.{Asked, laszip, las2las, lasinfo, lassplit, lasmerge, make, reads}
use Rattle.las_words.specs.Says.{asks, usage, says}

-- the commands by their options
abbrev zips : (input output : List ℕ) (chunk workers : ℕ) → Asked
zips input output chunk workers =
    record { work = reads input (laszip (record { output = output; chunk = chunk })); workers = workers }

-- each record stays
abbrev every : Settings
every = record { step = None; pick = pick.First; unique = false }

abbrev converts_range : (input output : List ℕ) (plan : Steps) (packed : Bool) (chunk workers start stop : ℕ) → Asked
converts_range input output plan packed chunk workers start stop = record {
  work = reads input (las2las (record {
    output = output;
    plan = plan;
    packed = packed;
    chunk = chunk;
    start = start;
    stop = stop;
    sieve = every;
    tallies = [];
  }));
  workers = workers;
}

-- all records of `a` sieved into `b`
abbrev sieves : Settings → (tallies : List (List ℕ)) → Asked
sieves sieve tallies = record {
  work = reads (codes "a") (las2las (record {
    output = codes "b";
    plan = record { keeps = []; changes = [] };
    packed = false;
    chunk = 50000;
    start = 0;
    stop = 4294967295;
    sieve = sieve;
    tallies = tallies;
  }));
  workers = 1;
}

abbrev converts : (input output : List ℕ) (plan : Steps) (packed : Bool) (chunk workers : ℕ) → Asked
converts input output plan packed chunk workers = converts_range input output plan packed chunk workers 0 4294967295

abbrev informs : (input : List ℕ) (tallies : List (List ℕ)) (workers : ℕ) → Asked
informs input tallies workers = record { work = reads input (lasinfo (record { tallies = tallies })); workers = workers }

abbrev splits : (input stem end : List ℕ) (rule : Rule) (workers : ℕ) → Asked
splits input stem end rule workers =
    record { work = reads input (lassplit (record { stem = stem; end = end; rule = rule })); workers = workers }

abbrev merges : (inputs : List (List ℕ)) (output : List ℕ) (packed : Bool) (chunk : ℕ) (copy : Bool) (workers : ℕ) → Asked
merges inputs output packed chunk copy workers = record {
  work = lasmerge (record { inputs = inputs; output = output; packed = packed; chunk = chunk; copy = copy });
  workers = workers;
}

abbrev makes : (output packed : List ℕ) (points seed format extra chunk workers : ℕ) → Asked
makes output packed points seed format extra chunk workers = record {
  work = make (record {
    output = output;
    packed = packed;
    points = points;
    seed = seed;
    format = format;
    extra = extra;
    chunk = chunk;
  });
  workers = workers;
}

-- the words of `laszip` and of `las2las` with an input and an output, and more words
abbrev zip : List (List ℕ) → List (List ℕ)
zip more = codes "laszip" ∷ codes "-i" ∷ codes "a" ∷ codes "-o" ∷ codes "b" ∷ more

abbrev filter : List (List ℕ) → List (List ℕ)
filter more = codes "las2las" ∷ codes "-i" ∷ codes "a" ∷ codes "-o" ∷ codes "b" ∷ more

abbrev nothing : Steps
nothing = record { keeps = []; changes = [] }

-- the names of taps
abbrev taps : List (List ℕ)
taps = codes "class" ∷ codes "source" ∷ []

no_words : says [] taps ≡ usage 0
unfolding says
no_words = refl

defaults : says (zip []) taps ≡ asks (zips (codes "a") (codes "b") 50000 1)
unfolding says
defaults = refl

any_order : says (codes "laszip" ∷ codes "-cores" ∷ codes "08" ∷ codes "-o" ∷ codes "-i" ∷ codes "-i" ∷ codes "-o" ∷ []) taps ≡ asks (zips (codes "-o") (codes "-i") 50000 8)
unfolding says
any_order = refl

chunk_of_no_record : says (zip (codes "-chunk_size" ∷ codes "0" ∷ [])) taps ≡ usage 6
unfolding says
chunk_of_no_record = refl

too_many_workers : says (zip (codes "-cores" ∷ codes "9" ∷ [])) taps ≡ usage 6
unfolding says
too_many_workers = refl

output_is_the_input : says (codes "laszip" ∷ codes "-i" ∷ codes "a" ∷ codes "-o" ∷ codes "a" ∷ []) taps ≡ usage 4
unfolding says
output_is_the_input = refl

no_output : says (codes "laszip" ∷ codes "-i" ∷ codes "a" ∷ []) taps ≡ usage 3
unfolding says
no_output = refl

missing_value : says (zip (codes "-cores" ∷ [])) taps ≡ usage 6
unfolding says
missing_value = refl

no_option_of_the_command : says (zip (codes "-keep_first" ∷ [])) taps ≡ usage 5
unfolding says
no_option_of_the_command = refl

no_class : says (filter (codes "-keep_class" ∷ codes "32" ∷ [])) taps ≡ usage 6
unfolding says
no_class = refl

given_twice : says (filter (codes "-keep_class" ∷ codes "2" ∷ codes "-keep_class" ∷ codes "3" ∷ [])) taps ≡ usage 7
unfolding says
given_twice = refl

plain_and_packed : says (filter (codes "-olas" ∷ codes "-olaz" ∷ [])) taps ≡ usage 6
unfolding says
plain_and_packed = refl

low_above_high : says (filter (codes "-keep_intensity" ∷ codes "200" ∷ codes "199" ∷ [])) taps ≡ usage 7
unfolding says
low_above_high = refl

too_many_digits : says (filter (codes "-keep_class" ∷ codes "000000000000000000002" ∷ [])) taps ≡ usage 6
unfolding says
too_many_digits = refl

-- filters and changes in their order, and a list that ends at the next option
filtered : says (filter (codes "-keep_class" ∷ codes "2" ∷ codes "5" ∷ codes "-translate_raw_x" ∷ codes "-5" ∷ codes "-drop_return" ∷ codes "1" ∷ codes "-translate_raw_xyz" ∷ codes "5" ∷ codes "0" ∷ codes "-0" ∷ [])) taps
    ≡ asks (converts (codes "a") (codes "b") (record { keeps = Classes 36 ∷ DropReturns 2 ∷ []; changes = Translate (negsuc 4) (pos 0) (pos 0) ∷ Translate (pos 5) (pos 0) (pos 0) ∷ [] }) false 50000 1)
unfolding says
filtered = refl

intensities : says (filter (codes "-keep_intensity" ∷ codes "100" ∷ codes "199" ∷ codes "-set_classification" ∷ codes "31" ∷ codes "-olaz" ∷ [])) taps
    ≡ asks (converts (codes "a") (codes "b") (record { keeps = Intensity 100 199 ∷ []; changes = SetClass 31 ∷ [] }) true 50000 1)
unfolding says
intensities = refl

-- packed by the ending of its name, unless -olas stands
packed_by_name : says (codes "las2las" ∷ codes "-i" ∷ codes "a" ∷ codes "-o" ∷ codes "b.LAZ" ∷ []) taps ≡ asks (converts (codes "a") (codes "b.LAZ") nothing true 50000 1)
unfolding says
packed_by_name = refl

plain_by_option : says (codes "las2las" ∷ codes "-i" ∷ codes "a" ∷ codes "-olas" ∷ codes "-o" ∷ codes "b.laz" ∷ []) taps ≡ asks (converts (codes "a") (codes "b.laz") nothing false 50000 1)
unfolding says
plain_by_option = refl

-- a range of records
ranged : says (filter (codes "-stop_at_point" ∷ codes "600" ∷ codes "-start_at_point" ∷ codes "0300" ∷ [])) taps ≡ asks (converts_range (codes "a") (codes "b") nothing false 50000 1 300 600)
unfolding says
ranged = refl

empty_range : says (filter (codes "-start_at_point" ∷ codes "600" ∷ codes "-stop_at_point" ∷ codes "600" ∷ [])) taps ≡ asks (converts_range (codes "a") (codes "b") nothing false 50000 1 600 600)
unfolding says
empty_range = refl

start_above_the_stop : says (filter (codes "-start_at_point" ∷ codes "5" ∷ codes "-stop_at_point" ∷ codes "4" ∷ [])) taps ≡ usage 8
unfolding says
start_above_the_stop = refl

stop_below_the_start : says (filter (codes "-stop_at_point" ∷ codes "4" ∷ codes "-keep_first" ∷ codes "-start_at_point" ∷ codes "5" ∷ [])) taps ≡ usage 9
unfolding says
stop_below_the_start = refl

-- one record of each cell
first_of_a_cell : says (filter (codes "-thin_raw" ∷ codes "2147483647" ∷ [])) taps ≡ asks (sieves (record { step = Some 2147483647; pick = pick.First; unique = false }) [])
unfolding says
first_of_a_cell = refl

lowest_of_a_cell : says (filter (codes "-lowest" ∷ codes "-thin_raw" ∷ codes "1" ∷ [])) taps ≡ asks (sieves (record { step = Some 1; pick = pick.Lowest; unique = false }) [])
unfolding says
lowest_of_a_cell = refl

highest_of_a_cell : says (filter (codes "-thin_raw" ∷ codes "10" ∷ codes "-drop_repeated" ∷ codes "-highest" ∷ [])) taps ≡ asks (sieves (record { step = Some 10; pick = pick.Highest; unique = true }) [])
unfolding says
highest_of_a_cell = refl

no_repeated_position : says (filter (codes "-drop_repeated" ∷ codes "-tally" ∷ codes "source" ∷ codes "-tally" ∷ codes "class" ∷ [])) taps ≡ asks (sieves (record { step = None; pick = pick.First; unique = true }) (codes "source" ∷ codes "class" ∷ []))
unfolding says
no_repeated_position = refl

step_of_nothing : says (filter (codes "-thin_raw" ∷ codes "0" ∷ [])) taps ≡ usage 6
unfolding says
step_of_nothing = refl

step_too_long : says (filter (codes "-thin_raw" ∷ codes "2147483648" ∷ [])) taps ≡ usage 6
unfolding says
step_too_long = refl

highest_beside_lowest : says (filter (codes "-highest" ∷ codes "-thin_raw" ∷ codes "10" ∷ codes "-lowest" ∷ [])) taps ≡ usage 8
unfolding says
highest_beside_lowest = refl

lowest_without_cells : says (filter (codes "-lowest" ∷ [])) taps ≡ usage 5
unfolding says
lowest_without_cells = refl

highest_without_cells : says (filter (codes "-drop_repeated" ∷ codes "-highest" ∷ [])) taps ≡ usage 6
unfolding says
highest_without_cells = refl

-- a name is wrong before a pick without cells is
name_before_the_pick : says (codes "las2las" ∷ codes "-lowest" ∷ codes "-i" ∷ codes "a" ∷ codes "-o" ∷ codes "a" ∷ []) taps ≡ usage 5
unfolding says
name_before_the_pick = refl

kept_tallied_twice : says (filter (codes "-tally" ∷ codes "class" ∷ codes "-tally" ∷ codes "class" ∷ [])) taps ≡ usage 8
unfolding says
kept_tallied_twice = refl

kept_by_no_tap : says (filter (codes "-tally" ∷ codes "none" ∷ [])) taps ≡ usage 6
unfolding says
kept_by_no_tap = refl

-- the words of `lasinfo` with an input, and more words
abbrev info : List (List ℕ) → List (List ℕ)
info more = codes "lasinfo" ∷ codes "-i" ∷ codes "a" ∷ more

tallied : says (info (codes "-tally" ∷ codes "source" ∷ codes "-cores" ∷ codes "2" ∷ codes "-tally" ∷ codes "class" ∷ [])) taps ≡ asks (informs (codes "a") (codes "source" ∷ codes "class" ∷ []) 2)
unfolding says
tallied = refl

tallied_twice : says (info (codes "-tally" ∷ codes "class" ∷ codes "-tally" ∷ codes "class" ∷ [])) taps ≡ usage 6
unfolding says
tallied_twice = refl

no_tap : says (info (codes "-tally" ∷ codes "none" ∷ [])) taps ≡ usage 4
unfolding says
no_tap = refl

-- what parts are named after, and whether a name is a part's
upper_ending : extension_of (codes "p.las.LAS") ≡ codes ".LAS"
upper_ending = refl

stem : stem_of (codes "p.las.LAS") ≡ codes "p.las"
stem = refl

no_ending : stem_of (codes "p.Las") ≡ codes "p.Las"
no_ending = refl

first_part : is_part_name (codes "p") (codes ".las") (codes "p_0000000.las") ≡ true
unfolding digits
first_part = refl

last_part : is_part_name (codes "p") (codes ".las") (codes "p_4294967295.las") ≡ true
unfolding digits
last_part = refl

past_the_last_part : is_part_name (codes "p") (codes ".las") (codes "p_4294967296.las") ≡ false
unfolding digits
past_the_last_part = refl

eight_digits : is_part_name (codes "p") [] (codes "p_00000001") ≡ false
unfolding digits
eight_digits = refl

-- the words of `lassplit` with an input and an output, and more words
abbrev split : (input output : List ℕ) → List (List ℕ) → List (List ℕ)
split input output more = codes "lassplit" ∷ codes "-i" ∷ input ∷ codes "-o" ∷ output ∷ more

split_by_number : says (split (codes "a") (codes "p.las") (codes "-split" ∷ codes "2" ∷ [])) taps ≡ asks (splits (codes "a") (codes "p") (codes ".las") (Every 2) 1)
unfolding says digits
split_by_number = refl

split_by_line : says (split (codes "a") (codes "p") (codes "-cores" ∷ codes "8" ∷ codes "-by_flightline" ∷ [])) taps ≡ asks (splits (codes "a") (codes "p") [] Source 8)
unfolding says digits
split_by_line = refl

no_way : says (split (codes "a") (codes "a") []) taps ≡ usage 5
unfolding says digits
no_way = refl

second_way : says (split (codes "a") (codes "p") (codes "-by_return" ∷ codes "-split" ∷ codes "0" ∷ [])) taps ≡ usage 6
unfolding says digits
second_way = refl

packed_parts : says (split (codes "a") (codes "p.laz") (codes "-by_return" ∷ [])) taps ≡ usage 4
unfolding says digits
packed_parts = refl

part_as_input : says (split (codes "p_0000007.las") (codes "p.las") (codes "-by_return" ∷ [])) taps ≡ usage 4
unfolding says digits
part_as_input = refl

-- a number of inputs, all of one name
abbrev inputs : ℕ → List (List ℕ)
inputs zero = []
inputs (suc count) = codes "-i" ∷ codes "a" ∷ inputs count

merged : says (codes "lasmerge" ∷ codes "-i" ∷ codes "b" ∷ codes "-o" ∷ codes "c.laz" ∷ codes "-i" ∷ codes "a" ∷ []) taps ≡ asks (merges (codes "b" ∷ codes "a" ∷ []) (codes "c.laz") true 50000 false 1)
unfolding says
merged = refl

-- the words of `lasmerge` with an input and an output, and more words
abbrev copy : (output : List ℕ) → List (List ℕ) → List (List ℕ)
copy output more = codes "lasmerge" ∷ codes "-i" ∷ codes "a.laz" ∷ codes "-o" ∷ output ∷ more

copied : says (copy (codes "c.laz") (codes "-copy_chunks" ∷ [])) taps ≡ asks (merges (codes "a.laz" ∷ []) (codes "c.laz") true 50000 true 1)
unfolding says
copied = refl

copied_with_olaz : says (copy (codes "c.las") (codes "-olaz" ∷ codes "-copy_chunks" ∷ codes "-cores" ∷ codes "8" ∷ [])) taps
    ≡ asks (merges (codes "a.laz" ∷ []) (codes "c.las") true 50000 true 8)
unfolding says
copied_with_olaz = refl

plain_output : says (copy (codes "c.las") (codes "-copy_chunks" ∷ [])) taps ≡ usage 4
unfolding says
plain_output = refl

copied_beside_olas : says (copy (codes "c.laz") (codes "-copy_chunks" ∷ codes "-olas" ∷ [])) taps ≡ usage 6
unfolding says
copied_beside_olas = refl

copied_after_a_chunk_size : says (copy (codes "c.laz") (codes "-chunk_size" ∷ codes "256" ∷ codes "-copy_chunks" ∷ [])) taps ≡ usage 7
unfolding says
copied_after_a_chunk_size = refl

one_input_more : says (codes "lasmerge" ∷ inputs 33 ++ codes "-o" ∷ codes "a" ∷ []) taps ≡ usage 65
unfolding says
one_input_more = refl

output_is_an_input : says (codes "lasmerge" ∷ codes "-i" ∷ codes "b" ∷ inputs 31 ++ codes "-o" ∷ codes "a" ∷ []) taps ≡ usage 66
unfolding says
output_is_an_input = refl

-- the words of `make` with two outputs, and more words
abbrev making : (output packed : List ℕ) → List (List ℕ) → List (List ℕ)
making output packed more = codes "make" ∷ codes "-o" ∷ output ∷ codes "-z" ∷ packed ∷ more

made : says (making (codes "m.las") (codes "m.laz") (codes "-points" ∷ codes "200000" ∷ codes "-seed" ∷ codes "7" ∷ codes "-format" ∷ codes "3" ∷ codes "-extra" ∷ codes "2" ∷ codes "-cores" ∷ codes "4" ∷ [])) taps
    ≡ asks (makes (codes "m.las") (codes "m.laz") 200000 7 3 2 50000 4)
unfolding says
made = refl

no_seed : says (making (codes "a") (codes "a") (codes "-points" ∷ codes "1" ∷ [])) taps ≡ usage 7
unfolding says
no_seed = refl

one_output : says (making (codes "a") (codes "a") (codes "-points" ∷ codes "1" ∷ codes "-seed" ∷ codes "1" ∷ [])) taps ≡ usage 4
unfolding says
one_output = refl
