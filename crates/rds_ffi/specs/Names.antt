-- The names of content types and of codes.
use Rattle.std.specs.Prelude.{ℕ, List, [], ◌∷◌, codes, slice_index_or}

-- the names of the content types of RT+ (IEC 62106-6, content types of RadioText Plus). The names from 12 on are as we
-- know them; 54 to 58 have none
abbrev pub type_names : List (List ℕ)
type_names =
    codes "DUMMY_CLASS" ∷ codes "ITEM.TITLE" ∷ codes "ITEM.ALBUM" ∷ codes "ITEM.TRACKNUMBER"
    ∷ codes "ITEM.ARTIST" ∷ codes "ITEM.COMPOSITION" ∷ codes "ITEM.MOVEMENT" ∷ codes "ITEM.CONDUCTOR"
    ∷ codes "ITEM.COMPOSER" ∷ codes "ITEM.BAND" ∷ codes "ITEM.COMMENT" ∷ codes "ITEM.GENRE" ∷ codes "INFO.NEWS"
    ∷ codes "INFO.NEWS.LOCAL" ∷ codes "INFO.STOCKMARKET" ∷ codes "INFO.SPORT" ∷ codes "INFO.LOTTERY"
    ∷ codes "INFO.HOROSCOPE" ∷ codes "INFO.DAILY_DIVERSION" ∷ codes "INFO.HEALTH" ∷ codes "INFO.EVENT"
    ∷ codes "INFO.SCENE" ∷ codes "INFO.CINEMA" ∷ codes "INFO.TV" ∷ codes "INFO.DATE_TIME" ∷ codes "INFO.WEATHER"
    ∷ codes "INFO.TRAFFIC" ∷ codes "INFO.ALARM" ∷ codes "INFO.ADVERTISEMENT" ∷ codes "INFO.URL"
    ∷ codes "INFO.OTHER" ∷ codes "STATIONNAME.SHORT" ∷ codes "STATIONNAME.LONG" ∷ codes "PROGRAMME.NOW"
    ∷ codes "PROGRAMME.NEXT" ∷ codes "PROGRAMME.PART" ∷ codes "PROGRAMME.HOST"
    ∷ codes "PROGRAMME.EDITORIAL_STAFF" ∷ codes "PROGRAMME.FREQUENCY" ∷ codes "PROGRAMME.HOMEPAGE"
    ∷ codes "PROGRAMME.SUBCHANNEL" ∷ codes "PHONE.HOTLINE" ∷ codes "PHONE.STUDIO" ∷ codes "PHONE.OTHER"
    ∷ codes "SMS.STUDIO" ∷ codes "SMS.OTHER" ∷ codes "EMAIL.HOTLINE" ∷ codes "EMAIL.STUDIO"
    ∷ codes "EMAIL.OTHER" ∷ codes "MMS.OTHER" ∷ codes "CHAT" ∷ codes "CHAT.CENTRE" ∷ codes "VOTE.QUESTION"
    ∷ codes "VOTE.CENTRE" ∷ [] ∷ [] ∷ [] ∷ [] ∷ [] ∷ codes "PLACE" ∷ codes "APPOINTMENT" ∷ codes "IDENTIFIER"
    ∷ codes "PURCHASE" ∷ codes "GET_DATA" ∷ []

-- the name of a content type; no bytes if it has none
abbrev pub type_name : ℕ → List ℕ
type_name content_type = slice_index_or type_names content_type []

-- the names of the codes in C; those that are no error have none (this project's own)
abbrev pub code_names : List (List ℕ)
code_names =
    [] ∷ [] ∷ codes "RDSRT_BAD_ARGUMENT" ∷ codes "RDSRT_SILENT" ∷ codes "RDSRT_HELD" ∷ codes "RDSRT_NO_TEXT"
    ∷ codes "RDSRT_OUT_OF_TEXT_1" ∷ codes "RDSRT_OUT_OF_TEXT_2" ∷ codes "RDSRT_TOO_LONG"
    ∷ codes "RDSRT_BAD_BYTE" ∷ codes "RDSRT_BAD_TAGS" ∷ codes "RDSRT_NOT_UTF8" ∷ codes "RDSRT_BAD_ESCAPE"
    ∷ codes "RDSRT_NO_CHARACTER" ∷ codes "RDSRT_NO_ROOM" ∷ [] ∷ [] ∷ codes "RDSRT_FAULT_CHANGED"
    ∷ codes "RDSRT_FAULT_NOT_ONE_TEXT" ∷ codes "RDSRT_FAULT_EARLY_FLAG" ∷ codes "RDSRT_FAULT_EARLY_TAG"
    ∷ codes "RDSRT_FAULT_TAG_OUTSIDE" ∷ []

-- the name of a code; no bytes if it has none
abbrev pub code_name : ℕ → List ℕ
code_name code = slice_index_or code_names code []
