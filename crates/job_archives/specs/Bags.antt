-- the bag of a job's archive (BagIt 1.0, RFC 8493): its payload, and four tag files beside it
use Rattle.std.specs.Prelude.{ℕ, ◌+◌, ◌==◌, Bool, false, ◌&&◌, List, [], ◌∷◌, ◌++◌, if◌then◌else◌, bytes_eq, codes, decimal, drop, flat_map, length, nat_eq, position}
use Rattle.std.specs.List.{starts_with, sum_by}
use Rattle.std.specs.Option.{option_map_or}
use Rattle.office.specs.Office.{Entry}
use Rattle.texts.specs.Digests.{digest_of}
use Rattle.job_archives.specs.Archives.{File, Files, archive_of, payload_of}

-- `bagit.txt`: the declaration of a bag
unfoldable pub declaration : List ℕ
declaration = codes "BagIt-Version: 1.0\nTag-File-Character-Encoding: UTF-8\n"

-- the line of a file in a manifest: the digest of its bytes, and its path, as `sha256sum` writes it
abbrev pub manifest_line : List ℕ → List ℕ → List ℕ
manifest_line path bytes = digest_of bytes ++ codes "  " ++ path ++ codes "\n"

-- the manifest of files: a line for each, in their order
abbrev pub manifest_of : List File → List ℕ
manifest_of = flat_map (λ file. manifest_line file.0 file.1)

-- a line of `bag-info.txt`
unfoldable pub tag_line : List ℕ → List ℕ → List ℕ
tag_line label value = label ++ codes ": " ++ value ++ codes "\n"

-- how many bytes files have together
abbrev pub octets_in : List File → ℕ
octets_in = sum_by (λ file. length file.1)

-- the bytes and the files of a payload: how many there are of each, with a point between
abbrev pub oxum_of : List File → List ℕ
oxum_of payload = decimal (octets_in payload) ++ codes "." ++ decimal (length payload)

-- the name of a job: its customer and its number
abbrev pub job_name : Entry → List ℕ
job_name e = e.customer ++ codes " " ++ decimal e.number

-- the lines of `bag-info.txt` that follow from the job: its name, and how much its payload is
unfoldable pub told_lines : Entry → List File → List ℕ
told_lines e payload = tag_line (codes "External-Identifier") (job_name e)
    ++ tag_line (codes "Payload-Oxum") (oxum_of payload)

-- the line of the program that wrote a bag, with its version
abbrev pub agent_line : List ℕ → List ℕ
agent_line agent = tag_line (codes "Bag-Software-Agent") agent

-- the bytes of a bag, but `bagit.txt`
pub record Bag : Type 0 where
  -- the files in `data/`
  pub payload : Files
  -- `bag-info.txt` up to its last line, that of the program
  pub told : List ℕ
  -- `bag-info.txt`
  pub info : List ℕ
  -- `manifest-sha256.txt`: that of the payload
  pub manifest : List ℕ
  -- `tagmanifest-sha256.txt`: that of the other tag files
  pub tags : List ℕ

-- the tag files of a bag with these two, but for the tag manifest, in the order of their names
abbrev pub tag_files : List ℕ → List ℕ → List File
tag_files info manifest = (codes "bag-info.txt", info) ∷ (codes "bagit.txt", declaration)
    ∷ (codes "manifest-sha256.txt", manifest) ∷ []

-- the bag of a job's archive, written by this program
abbrev pub bag_of : List ℕ → Entry → Bag
bag_of agent e =
    let payload : List File = payload_of (archive_of e) in
    let info : List ℕ = told_lines e payload ++ agent_line agent in
    record {
      payload = archive_of e;
      told = told_lines e payload;
      info = info;
      manifest = manifest_of payload;
      tags = manifest_of (tag_files info (manifest_of payload));
    }

-- the files of a bag, in the order of their names
abbrev pub bag_files : Bag → List File
bag_files bag = (codes "bag-info.txt", bag.info) ∷ (codes "bagit.txt", declaration)
    ∷ payload_of bag.payload ++ (codes "manifest-sha256.txt", bag.manifest)
    ∷ (codes "tagmanifest-sha256.txt", bag.tags) ∷ []

-- ---- bags of other versions

-- whether these bytes are one line: its line feed is the last of them, and there is no other
abbrev pub is_line : List ℕ → Bool
is_line text =
    option_map_or (λ place. place + 1 == length text) (position (λ byte. byte == 10) text) false

-- whether this is the line of a program that wrote a bag
abbrev pub is_agent_line : List ℕ → Bool
is_agent_line text =
    starts_with nat_eq text (codes "Bag-Software-Agent: ") && is_line (drop 20 text)

-- whether this is `bag-info.txt` with these lines, whichever program wrote the last one
abbrev pub is_info : List ℕ → List ℕ → Bool
is_info told text = starts_with nat_eq text told && is_agent_line (drop (length told) text)

-- whether a text is this tag manifest, whatever the digest of `bag-info.txt` is: the first 64 bytes
abbrev pub are_tags : List ℕ → List ℕ → Bool
are_tags tags text = length text == length tags && bytes_eq (drop 64 text) (drop 64 tags)

-- whether the bytes that are there are those of this file of a bag, whichever version of the program
-- wrote them
unfoldable pub is_same : Bag → File → List ℕ → Bool
is_same bag file text =
    if bytes_eq file.0 (codes "bag-info.txt") then is_info bag.told text else
    if bytes_eq file.0 (codes "tagmanifest-sha256.txt") then are_tags bag.tags text else
    bytes_eq text file.1
