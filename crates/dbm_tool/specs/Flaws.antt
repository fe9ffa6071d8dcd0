-- How a flaw of a file is told in words.
use Rattle.std.specs.Prelude.{◌≡◌, ℕ, List, ◌++◌, Option, Some, None, codes}
use Rattle.std.specs.Fmt.{decimal}
use Rattle.file_check.specs.declared.flaws.Flaw.{Flaw}
use Rattle.file_check.specs.declared.flaws.Rule.{Rule}
use Rattle.file_check.specs.declared.flaws.Rule.TheVariants as rule
use Rattle.dbm_command_line.specs.declared.help_text.TheConstants.{DAMAGED_WORDS}

-- what is wrong with a page that breaks the rule
abbrev pub rule_words : Rule → List ℕ
rule_words rule.Meta = codes "it is no meta page of the format"
rule_words rule.Limit = codes "the file has more pages than its limit asks for"
rule_words rule.Outside = codes "the file has no such page"
rule_words rule.Twice = codes "it stands in two places"
rule_words rule.Segment = codes "it is no segment page of these buckets"
rule_words rule.Head = codes "it is no head page of a bucket"
rule_words rule.Overflow = codes "it is no overflow page"
rule_words rule.Empty = codes "it is an overflow page that has no pair"
rule_words rule.Slots = codes "its header or its slots break the format"
rule_words rule.Bucket = codes "a pair stands there that is in another bucket"
rule_words rule.Key = codes "a key stands there twice, here and on an earlier page of its bucket"
rule_words rule.Content =
    codes "it is no content page, or has other bytes than zeros behind its content"
rule_words rule.ContentShort = codes "a content ends there too soon"
rule_words rule.ContentLong = codes "a content goes on there behind its end"
rule_words rule.Free = codes "it is no free page"
rule_words rule.FreeCount = codes "the free list is longer or shorter than it counts"
rule_words rule.PairCount = codes "there are more or fewer pairs than it counts"
rule_words rule.Unused = codes "no other page leads to it"

-- `page N: WORDS`, and of a file whose flaw is not known that it is damaged
abbrev pub damage_words : Option Flaw → List ℕ
damage_words None = DAMAGED_WORDS.now
damage_words (Some flaw) =
    codes "page " ++ (decimal flaw.page ++ (codes ": " ++ rule_words flaw.rule))

abbrev pub AreDamageWords : List ℕ → Type 0
AreDamageWords words = (flaw : Option Flaw) × (words ≡ damage_words flaw)
